-- A script has one reading.
use Rattle.std.proofs.Common.{◌≡◌, ℕ, ◌<◌, List, [], ◌∷◌, ◌++◌, length, None, codes, arith, refl, ap, sym, ◌∙◌, subst}
use Rattle.std.proofs.lemmas.Option.{some_pair_parts}
use Rattle.office_run.specs.ScriptGrammar.{BeginsWith, Reads, IsScript, StopsAfter}
use Rattle.office_commands.specs.CommandText.{ask_text, report_command_text, file_text, edit_text, write_text, order_text}
use Rattle.office_commands.specs.Commands.{Command, Ask, Report, File, Edit, Write, Next, Batch, Catch_up, Ordered}
use Rattle.office_commands.specs.declared.order.Order.{Order}
use Rattle.office_commands.specs.declared.order.Order.TheVariants as order
use Rattle.office_run.specs.ScriptReading.{command_at}
use Rattle.office_run.proofs.CommandTexts.{command_at-begins}
use Rattle.office_run.proofs.LineTexts.{line_size}

-- an order has some text
some_order : (o : Order) → 0 < length (order_text o)
some_order order.Book = omega arith
some_order (order.Ship node number) = omega arith
some_order (order.Deliver message) = omega arith
some_order (order.Take node) = omega arith
some_order order.Alone = omega arith
some_order order.Pair = omega arith
some_order (order.Stop node) = omega arith
some_order (order.Start node) = omega arith
some_order order.StartDuty = omega arith
some_order order.Status = omega arith

-- nothing begins with a command where there is nothing
no_command : (command : Command) (rest : List ℕ) → BeginsWith [] command rest → ⊥
no_command (Ask node position tn since) rest h = omega (arith, line_size [] (ask_text node position tn since) rest h.spelled)
no_command (Report node report) rest h = omega (arith, line_size [] (report_command_text node report) rest h.spelled)
no_command (File content) rest h = omega (arith, line_size [] (file_text (length content)) h.spelled.0 h.spelled.1)
no_command (Edit editor serial edit) rest h = omega (arith, line_size [] (edit_text editor serial h.spelled.0) rest h.spelled.2)
no_command (Write node) rest h = omega (arith, line_size [] (write_text node) rest h.spelled)
no_command Next rest h = omega (arith, line_size [] (codes "NEXT") rest h.spelled)
no_command Batch rest h = omega (arith, line_size [] (codes "BATCH") rest h.spelled)
no_command Catch_up rest h = omega (arith, line_size [] (codes "CATCHUP") rest h.spelled)
no_command (Ordered order) rest h = omega (arith, some_order order, line_size [] (order_text order) rest h.spelled)

-- two first commands are one, and so is what is left after them
one_first : (bytes : List ℕ) (c d : Command) (x y : List ℕ) → BeginsWith bytes c x → BeginsWith bytes d y → (c ≡ d) × (x ≡ y)
one_first bytes c d x y h k = some_pair_parts c d x y (sym (command_at-begins bytes c x h) ∙ command_at-begins bytes d y k)

-- what is left: nothing, or something that begins with no command
abbrev IsEnd : List ℕ → Type 0
IsEnd rest = (command : Command) (left : List ℕ) → BeginsWith rest command left → ⊥

-- two readings up to such an end are one
one_reading : (bytes : List ℕ) (cs ds : List Command) (x y : List ℕ) → Reads bytes cs x → Reads bytes ds y → IsEnd x → IsEnd y → (cs ≡ ds) × (x ≡ y)
one_reading bytes [] [] x y h k ends endt = (refl, sym h ∙ k)
one_reading bytes [] (d ∷ ds) x y h k ends endt = absurd (ends d k.0 (subst (λ z. BeginsWith z d k.0) h k.1))
one_reading bytes (c ∷ cs) [] x y h k ends endt = absurd (endt c h.0 (subst (λ z. BeginsWith z c h.0) k h.1))
one_reading bytes (c ∷ cs) (d ∷ ds) x y h k ends endt =
    let first = one_first bytes c d h.0 k.0 h.1 k.1 in
    let P : List ℕ → Type 0 = λ z. Reads z cs x in
    let more = one_reading k.0 cs ds x y (subst P first.1 h.2) k.2 ends endt in
    (ap (λ z. z ∷ cs) first.0 ∙ ap (λ zs. d ∷ zs) more.0, more.1)

pub one_script : (bytes : List ℕ) (commands others : List Command) → IsScript bytes commands → IsScript bytes others → commands ≡ others
one_script bytes commands others h k = (one_reading bytes commands others [] [] h k no_command no_command).0

pub one_stop : (bytes : List ℕ) (commands others : List Command) → StopsAfter bytes commands → StopsAfter bytes others → commands ≡ others
one_stop bytes commands others h k = (one_reading bytes commands others h.rest k.rest h.front k.front h.stop k.stop).0

pub not_both : (bytes : List ℕ) (commands others : List Command) → IsScript bytes commands → StopsAfter bytes others → ⊥
not_both bytes commands others h k = k.more (sym (one_reading bytes commands others [] k.rest h k.front no_command k.stop).1)

-- one command more
pub Reads-snoc : (bytes : List ℕ) (commands : List Command) (command : Command) (rest left : List ℕ) → Reads bytes commands rest → BeginsWith rest command left → Reads bytes (commands ++ command ∷ []) left
Reads-snoc bytes [] command rest left h first = (left, subst (λ z. BeginsWith z command left) (sym h) first, refl)
Reads-snoc bytes (c ∷ cs) command rest left h first = (h.0, h.1, Reads-snoc h.0 cs command rest left h.2 first)

-- no first command was found
pub no_first : (rest : List ℕ) → command_at rest ≡ None → (command : Command) (left : List ℕ) → BeginsWith rest command left → ⊥
no_first rest none command left h = cc (sym none ∙ command_at-begins rest command left h)
