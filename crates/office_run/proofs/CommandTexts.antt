-- Commands and their texts.
use Rattle.std.proofs.Common.{◌≡◌, ℕ, List, length, refl, ap, sym, ◌∙◌, subst, arith, Option, Some, None, option_and_then, option_map, IfSome, codes}
use Rattle.std.proofs.lemmas.Option.{some_pair_parts}
use Rattle.ali_base.proofs.Steps.{bind_ok}
use Rattle.office_commands.specs.Commands.{Command, Ask, Report, File, Edit, Write, Next, Batch, Catch_up, Ordered, IsCommand}
use Rattle.office_commands.specs.CommandText.{ask_text, report_command_text, file_text, edit_text, write_text, order_text, IsEditLine, SpellsLine}
use Rattle.office_commands.specs.LineReading.{line_of}
use Rattle.office_commands.specs.declared.command_line.CommandLine.{CommandLine}
use Rattle.office_commands.specs.declared.command_line.CommandLine.TheVariants as line
use Rattle.office_commands.proofs.CommandLines.{line_clear, line_of-spelled, spelled-line_of}
use Rattle.office_run.specs.ScriptGrammar.{BeginsLine, Spelled, BeginsWith}
use Rattle.office_run.specs.ScriptReading.{line_at, command_of_line, command_at}
use Rattle.office_run.proofs.FileTexts.{content_at-begins, begins-content_at}
use Rattle.office_run.proofs.LineTexts.{line_at-begins, begins-line_at}

-- bytes are read by their first line
pub command_at-parts : (bytes text rest : List ℕ) (l : CommandLine) → line_at bytes ≡ (text, rest) → line_of text ≡ Some l → command_at bytes ≡ command_of_line rest l
unfolding command_at
command_at-parts bytes text rest l parts is =
    ap (λ (p : List ℕ × List ℕ). option_and_then (command_of_line p.1) (line_of p.0)) parts
    ∙ ap (λ (o : Option CommandLine). option_and_then (command_of_line rest) o) is

-- bytes that begin with a line are read by it
command_at-line : (bytes text rest : List ℕ) (l : CommandLine) → SpellsLine text l → BeginsLine bytes text rest → command_at bytes ≡ command_of_line rest l
command_at-line bytes text rest l is first =
    command_at-parts bytes text rest l (line_at-begins bytes text rest (line_clear text l is) first) (line_of-spelled text l is)

command_at-spelled : (bytes : List ℕ) (c : Command) (rest : List ℕ) → IsCommand c → Spelled bytes c rest → command_at bytes ≡ Some (c, rest)
command_at-spelled bytes (Ask node p tn since) rest h is =
    command_at-line bytes (ask_text node p tn since) rest (line.Ask (record { node = node; position = p; tn = tn; since = since })) (h, refl) is
command_at-spelled bytes (Report node report) rest h is = command_at-line bytes (report_command_text node report) rest (line.Report node report) (h, refl) is
command_at-spelled bytes (File content) rest h is =
    command_at-line bytes (file_text (length content)) is.0 (line.File (length content)) (h, refl) is.1 ∙ content_at-begins is.0 content rest is.2
command_at-spelled bytes (Edit editor serial edit) rest h is =
    let spelled : IsEditLine (edit_text editor serial is.0) editor serial is.0 = record { editor_is = h.0; serial_is = h.1; line_is = refl } in
    command_at-line bytes (edit_text editor serial is.0) rest (line.Edit editor serial edit) (is.0, is.1, spelled) is.2
command_at-spelled bytes (Write node) rest h is = command_at-line bytes (write_text node) rest (line.Write node) refl is
command_at-spelled bytes Next rest h is = command_at-line bytes (codes "NEXT") rest line.Next refl is
command_at-spelled bytes Batch rest h is = command_at-line bytes (codes "BATCH") rest line.Batch refl is
command_at-spelled bytes Catch_up rest h is = command_at-line bytes (codes "CATCHUP") rest line.CatchUp refl is
command_at-spelled bytes (Ordered order) rest h is = command_at-line bytes (order_text order) rest (line.Order order) (h, refl) is

same_begins : (bytes : List ℕ) (c d : Command) (left rest : List ℕ) → ◌≡◌ {A = Option (Command × List ℕ)} (Some (c, left)) (Some (d, rest)) → BeginsWith bytes c left → BeginsWith bytes d rest
same_begins bytes c d left rest same h =
    let p = some_pair_parts c d left rest same in
    subst (λ z. BeginsWith bytes z rest) p.0 (subst (λ z. BeginsWith bytes c z) p.1 h)

begins-line : (bytes text left : List ℕ) (l : CommandLine) (c : Command) (rest : List ℕ) → BeginsLine bytes text left → SpellsLine text l → command_of_line left l ≡ Some (c, rest) → BeginsWith bytes c rest
begins-line bytes text left (line.Ask ask) c rest first is h =
    same_begins bytes (Ask ask.node ask.position ask.tn ask.since) c left rest h (record { lawful = is.0; spelled = subst (λ z. BeginsLine bytes z left) is.1 first })
begins-line bytes text left (line.Report node report) c rest first is h =
    same_begins bytes (Report node report) c left rest h (record { lawful = is.0; spelled = subst (λ z. BeginsLine bytes z left) is.1 first })
begins-line bytes text left (line.File len) c rest first is h =
    let file = begins-content_at len left c rest h in
    let spelled = is.1 ∙ ap file_text (sym file.1) in
    subst (λ z. BeginsWith bytes z rest) (sym file.2) (record {
      lawful = omega (arith, is.0, file.1);
      spelled = (left, subst (λ z. BeginsLine bytes z left) spelled first, file.3);
    })
begins-line bytes text left (line.Edit editor serial edit) c rest first is h =
    same_begins bytes (Edit editor serial edit) c left rest h (record {
      lawful = (is.2.editor_is, is.2.serial_is, is.1.lawful);
      spelled = (is.0, is.1, subst (λ z. BeginsLine bytes z left) is.2.line_is first);
    })
begins-line bytes text left (line.Write node) c rest first is h = same_begins bytes (Write node) c left rest h (record { lawful = tt; spelled = subst (λ z. BeginsLine bytes z left) is first })
begins-line bytes text left line.Next c rest first is h = same_begins bytes Next c left rest h (record { lawful = tt; spelled = subst (λ z. BeginsLine bytes z left) is first })
begins-line bytes text left line.Batch c rest first is h = same_begins bytes Batch c left rest h (record { lawful = tt; spelled = subst (λ z. BeginsLine bytes z left) is first })
begins-line bytes text left line.CatchUp c rest first is h = same_begins bytes Catch_up c left rest h (record { lawful = tt; spelled = subst (λ z. BeginsLine bytes z left) is first })
begins-line bytes text left (line.Order order) c rest first is h =
    same_begins bytes (Ordered order) c left rest h (record { lawful = is.0; spelled = subst (λ z. BeginsLine bytes z left) is.1 first })

-- what is spelled so is read so
pub command_at-begins : (bytes : List ℕ) (command : Command) (rest : List ℕ) → BeginsWith bytes command rest → command_at bytes ≡ Some (command, rest)
command_at-begins bytes command rest h = command_at-spelled bytes command rest h.lawful h.spelled

-- and what is read so is spelled so
pub begins-command_at : (bytes : List ℕ) (command : Command) (rest : List ℕ) → command_at bytes ≡ Some (command, rest) → BeginsWith bytes command rest
unfolding command_at
begins-command_at bytes command rest h =
    let first = line_at bytes in
    let found = bind_ok (line_of first.0) _ (command, rest) h in
    begins-line bytes first.0 first.1 found.0 command rest (begins-line_at bytes) (spelled-line_of first.0 found.0 found.1) found.2

-- and is a command
pub lawful-command_at : {X : Type 0} (of : X → Command × List ℕ) (found : Option X) (bytes : List ℕ) → option_map of found ≡ command_at bytes → IfSome found (λ x. IsCommand (of x).0)
lawful-command_at of None bytes is = tt
lawful-command_at of (Some x) bytes is = let begins = begins-command_at bytes (of x).0 (of x).1 (sym is) in begins.lawful
