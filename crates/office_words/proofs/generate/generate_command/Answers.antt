use Rattle.std.proofs.Common.{rules, ap, ap₂, codes, true, ◌≡◌, ◌∙◌}
use Rattle.clap.specs.Words.{app_of, new_app, rule_of, with_rule}
use Rattle.clap.specs.Simple.{app_of_fields, on_top}
use Rattle.office_words.specs.Generate.{word}
use Rattle.office_words.proofs.generate.generate_command.Goals as goal

pub returns : goal.returns
returns c =
    let dir_is : rule_of c.action-dir.result ≡ word (codes "dir") = search rules in
    let seed_is : rule_of c.action-seed.result ≡ word (codes "seed") = search rules in
    let count_is : rule_of c.action-count.result ≡ word (codes "count") = search rules in
    let plain_is : app_of c.disable_help_flag-plain.result ≡ on_top (λ s. record s { disable_help_flag = true }) (new_app (codes "generate")) =
    ap app_of_fields c.disable_help_flag-plain.ensures ∙ ap (on_top (λ s. record s { disable_help_flag = true })) c.new-4.ensures.app in
    c.in_ok-command.ensures.shape (search rules)
    ∙ ap₂ with_rule (c.in_ok-arg-2.ensures.shape (search rules) ∙ ap₂ with_rule (c.in_ok-arg.ensures.shape (search rules) ∙ ap₂ with_rule plain_is dir_is) seed_is) count_is
