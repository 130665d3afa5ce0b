-- Commands and their replies, one more at the end.
use Rattle.std.proofs.Common.{◌≡◌, List, [], ◌∷◌, ◌++◌, refl, ap, sym, ◌∙◌, subst, arith}
use Rattle.std.proofs.lemmas.List.{append_assoc, append-nil}
use Rattle.office_commands.specs.Commands.{Command}
use Rattle.command_machine.specs.Machine.{Moment}
use Rattle.command_machine.specs.Replies.{Reply}
use Rattle.command_machine.specs.ReplyText.{reply_text, text_of}
use Rattle.command_machine.specs.Steps.{Steps, Replies}
use Rattle.command_machine.specs.Switches.{Switches, IsSwitched}
use Rattle.office_run.specs.Carrying.{SwitchedTo}
use Rattle.office_run.specs.Replied.{AreSwitched, all_of}
use Rattle.world_rows.specs.Counts.{Counts, NeverFall}

pub never-trans : (a b c : Counts) → NeverFall a b → NeverFall b c → NeverFall a c
never-trans a b c first second = λ disk. omega (arith, first disk, second disk)

pub switched_more : (before : Counts) (s : Switches) (commands : List Command) (told : List (List Reply)) (now : Counts) (t : Switches) (command : Command) (last : List Reply) (later : Counts) (u : Switches)
    → SwitchedTo before s commands told now t → NeverFall now later → IsSwitched now later t command last u
    → SwitchedTo before s (commands ++ command ∷ []) (told ++ last ∷ []) later u
switched_more before s [] told now t command last later u h falls is =
    let same = subst (λ z. IsSwitched now later z command last u) h.2 is in
    (last, [], later, u, ap (λ z. z ++ last ∷ []) h.0, subst (λ z. NeverFall z later) h.1 falls, subst (λ z. IsSwitched z later s command last u) h.1 same, (refl, refl, refl))
switched_more before s (c ∷ cs) told now t command last later u h falls is =
    (h.0, h.1 ++ last ∷ [], h.2, h.3, ap (λ z. z ++ last ∷ []) h.4, h.5, h.6, switched_more h.2 h.3 cs h.1 now t command last later u h.7 falls is)

-- the counts may rise after the last
pub switched_since : (before : Counts) (s : Switches) (commands : List Command) (told : List (List Reply)) (now : Counts) (t : Switches) (later : Counts)
    → SwitchedTo before s commands told now t → NeverFall now later → AreSwitched before later s commands told
switched_since before s [] told now t later h falls = (h.0, subst (λ z. NeverFall z later) h.1 falls)
switched_since before s (c ∷ cs) told now t later h falls =
    (h.0, h.1, h.2, h.3, h.4, h.5, h.6, switched_since h.2 h.3 cs h.1 now t later h.7 falls)

pub replies_more : (m : Moment) (commands : List Command) (told : List Reply) (now : Moment) (command : Command) (last : List Reply) (later : Moment)
    → Replies m commands told now → Steps now command last later → Replies m (commands ++ command ∷ []) (told ++ last) later
replies_more m [] told now command last later h step =
    (last, [], later, subst (λ (z : Moment). Steps z command last later) h.1 step, (refl, refl), ap (λ z. z ++ last) h.0 ∙ sym (append-nil last))
replies_more m (c ∷ cs) told now command last later h step =
    (h.0, h.1 ++ last, h.2, h.3, replies_more h.2 cs h.1 now command last later h.4 step, ap (λ z. z ++ last) h.5 ∙ append_assoc h.0 h.1 last)

pub all_of-more : (told : List (List Reply)) (last : List Reply) → all_of (told ++ last ∷ []) ≡ all_of told ++ last
all_of-more [] last = append-nil last
all_of-more (first ∷ told) last = ap (λ z. first ++ z) (all_of-more told last) ∙ sym (append_assoc first (all_of told) last)

pub text_of-append : (told more : List Reply) → text_of (told ++ more) ≡ text_of told ++ text_of more
text_of-append [] more = refl
text_of-append (first ∷ told) more = ap (λ z. reply_text first ++ z) (text_of-append told more) ∙ sym (append_assoc (reply_text first) (text_of told) (text_of more))

pub text_of-more : (told : List (List Reply)) (last : List Reply) → text_of (all_of (told ++ last ∷ [])) ≡ text_of (all_of told) ++ text_of last
text_of-more told last = ap text_of (all_of-more told last) ∙ text_of-append (all_of told) last
