-- The command by which the words behind `generate` are read.
use Rattle.std.specs.Prelude.{Option, Some, true, codes}
use Rattle.ali_base.specs.Steps.{◌>>=◌}
use Rattle.clap.specs.Words.{App, Rule, Text, new_app, new_rule, with_rule}
use Rattle.clap.specs.Simple.{on_top}
use Rattle.clap.specs.declared.builder.ArgAction.TheVariants.{Set}
use Rattle.office_words.specs.Words.{generate_form}
use Rattle.office_words.specs.declared.form.Form.{Form}

-- a word that has to be there
abbrev pub word : Text → Rule
word id = record (new_rule id) { action = Some Set; required = true }

-- three words, and no flag for help
abbrev pub generate : App
generate = with_rule (with_rule (with_rule (on_top (λ s. record s { disable_help_flag = true })
    (new_app (codes "generate"))) (word (codes "dir"))) (word (codes "seed"))) (word (codes "count"))

-- what the values of the words say
abbrev pub matched_form : (Text → Option Text) → Option Form
matched_form value = do
  seed ← value (codes "seed")
  count ← value (codes "count")
  generate_form seed count
