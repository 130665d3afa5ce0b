-- Orders to the nodes, and their texts.
use Rattle.std.proofs.Common.{◌≡◌, inl, inr, ℕ, ◌≤◌, ◌<◌, ◌^◌, true, nat_le, List, ◌∷◌, ◌++◌, refl, ap, ◌∙◌, subst, arith, Some, codes}
use Rattle.std.specs.Fmt.{decimal}
use Rattle.std.proofs.lemmas.Bool.Decides.{nat_tests}
use Rattle.std.proofs.lemmas.Option.{cond_some}
use Rattle.ali_base.specs.NodeNames.{node_of, node_text}
use Rattle.ali_base.specs.declared.names.NodeName.{NodeName}
use Rattle.ali_base.specs.declared.names.NodeName.TheVariants.{A, B}
use Rattle.ali_base.proofs.NodeLetters.{node_of-text, text-node_of}
use Rattle.ali_base.proofs.Steps.{bind_ok, some_is}
use Rattle.text_line.specs.WordReading.{number_of, split_once}
use Rattle.text_line.proofs.NumberTexts.{number_of-decimal, decimal-number_of}
use Rattle.text_line.proofs.Splits.{Clear, Clear-append, split_again, split_is, decimal_clear}
use Rattle.office_commands.specs.Commands.{IsOrder}
use Rattle.office_commands.specs.CommandText.{order_text, SpellsLine}
use Rattle.office_commands.specs.LineReading.{ship_of, deliver_of, take_of, stop_of, start_of, order_by_word, line_of}
use Rattle.office_commands.specs.declared.command_line.CommandLine.{CommandLine}
use Rattle.office_commands.specs.declared.command_line.CommandLine.TheVariants.{Order}
use Rattle.office_commands.specs.declared.order.Order.{Order as NodeOrder}
use Rattle.office_commands.specs.declared.order.Order.TheVariants as orders
use Rattle.office_commands.proofs.FirstWords.{by_parts, alone, this_word, spelled_as, node_clear, one_node}

-- ---- no byte of an order is a line end

ship_clear : (node : NodeName) (number : ℕ) → number < 2 ^ 32 → Clear 10 (node_text node ++ 32 ∷ decimal number)
ship_clear node number small = Clear-append 10 (node_text node) (32 ∷ decimal number) (node_clear 10 refl refl node) (refl, decimal_clear 10 refl number small)

pub order_clear : (order : NodeOrder) → IsOrder order → Clear 10 (order_text order)
order_clear orders.Book h = (refl, (refl, (refl, (refl, tt))))
order_clear (orders.Ship node number) h = (refl, (refl, (refl, (refl, (refl, ship_clear node number h.1)))))
order_clear (orders.Deliver message) h = (refl, (refl, (refl, (refl, (refl, (refl, (refl, (refl, decimal_clear 10 refl message h.1))))))))
order_clear (orders.Take node) h = (refl, (refl, (refl, (refl, (refl, node_clear 10 refl refl node)))))
order_clear orders.Alone h = (refl, (refl, (refl, (refl, (refl, tt)))))
order_clear orders.Pair h = (refl, (refl, (refl, (refl, tt))))
order_clear (orders.Stop node) h = (refl, (refl, (refl, (refl, (refl, node_clear 10 refl refl node)))))
order_clear (orders.Start node) h = (refl, (refl, (refl, (refl, (refl, (refl, node_clear 10 refl refl node))))))
order_clear orders.StartDuty h = (refl, (refl, (refl, (refl, (refl, (refl, (refl, (refl, (refl, (refl, tt))))))))))
order_clear orders.Status h = (refl, (refl, (refl, (refl, (refl, (refl, tt))))))

-- ---- what is spelled is read

ship_of-text : (node : NodeName) (number : ℕ) → 1 ≤ number → number < 2 ^ 32 → ship_of (node_text node ++ 32 ∷ decimal number) ≡ Some (Order (orders.Ship node number))
unfolding ship_of
ship_of-text node number low small =
    let least : nat_le 1 number ≡ true = grind (arith, nat_tests, low) in
    rw (split_again 32 (node_text node) (decimal number) (node_clear 32 refl refl node), node_of-text node, number_of-decimal number small, least) refl

deliver_of-text : (message : ℕ) → 1 ≤ message → message < 2 ^ 32 → deliver_of (decimal message) ≡ Some (Order (orders.Deliver message))
unfolding deliver_of
deliver_of-text message low small =
    let least : nat_le 1 message ≡ true = grind (arith, nat_tests, low) in
    rw (number_of-decimal message small, least) refl

take_of-text : (node : NodeName) → take_of (node_text node) ≡ Some (Order (orders.Take node))
unfolding take_of
take_of-text node = rw (node_of-text node) refl

stop_of-text : (node : NodeName) → stop_of (node_text node) ≡ Some (Order (orders.Stop node))
unfolding stop_of
stop_of-text node = rw (node_of-text node) refl

start_of-text : (node : NodeName) → start_of (node_text node) ≡ Some (Order (orders.Start node))
unfolding start_of
start_of-text A = refl
start_of-text B = refl

start_of-duty : start_of (codes "duty") ≡ Some (Order orders.StartDuty)
unfolding start_of
start_of-duty = refl

pub line_of-order : (text : List ℕ) (order : NodeOrder) → IsOrder order → text ≡ order_text order → line_of text ≡ Some (Order order)
line_of-order text orders.Book h is = ap line_of is ∙ alone (codes "BOOK") (refl, (refl, (refl, (refl, tt))))
line_of-order text (orders.Ship node number) h is =
    by_parts text (codes "SHIP") (node_text node ++ 32 ∷ decimal number) (refl, (refl, (refl, (refl, tt)))) is ∙ ship_of-text node number h.0 h.1
line_of-order text (orders.Deliver message) h is =
    by_parts text (codes "DELIVER") (decimal message) (refl, (refl, (refl, (refl, (refl, (refl, (refl, tt))))))) is ∙ deliver_of-text message h.0 h.1
line_of-order text (orders.Take node) h is = by_parts text (codes "TAKE") (node_text node) (refl, (refl, (refl, (refl, tt)))) is ∙ take_of-text node
line_of-order text orders.Alone h is = ap line_of is ∙ alone (codes "ALONE") (refl, (refl, (refl, (refl, (refl, tt)))))
line_of-order text orders.Pair h is = ap line_of is ∙ alone (codes "PAIR") (refl, (refl, (refl, (refl, tt))))
line_of-order text (orders.Stop node) h is = by_parts text (codes "STOP") (node_text node) (refl, (refl, (refl, (refl, tt)))) is ∙ stop_of-text node
line_of-order text (orders.Start node) h is = by_parts text (codes "START") (node_text node) (refl, (refl, (refl, (refl, (refl, tt))))) is ∙ start_of-text node
line_of-order text orders.StartDuty h is = by_parts text (codes "START") (codes "duty") (refl, (refl, (refl, (refl, (refl, tt))))) is ∙ start_of-duty
line_of-order text orders.Status h is = ap line_of is ∙ alone (codes "STATUS") (refl, (refl, (refl, (refl, (refl, (refl, tt))))))

-- ---- and what is read is spelled so

-- a line that is this order is spelled as it
order_is : (text : List ℕ) (order : NodeOrder) (line : CommandLine) → IsOrder order → Order order ≡ line → text ≡ order_text order → SpellsLine text line
order_is text order line lawful same is = subst (SpellsLine text) same (lawful, is)

spelled-ship : (text word words : List ℕ) (line : CommandLine) → text ≡ word ++ 32 ∷ words → (word ≡ codes "SHIP") × (ship_of words ≡ Some line) → SpellsLine text line
unfolding ship_of
spelled-ship text word words line is h =
    let parts = bind_ok (split_once 32 words) _ line h.1 in
    let node = bind_ok (node_of parts.0.0) _ line parts.2 in
    let number = bind_ok (number_of parts.0.1) _ line node.2 in
    let test = cond_some (nat_le 1 number.0) (Order (orders.Ship node.0 number.0)) line number.2 in
    let low : 1 ≤ number.0 = grind (arith, nat_tests, test.0) in
    let written = decimal-number_of parts.0.1 number.0 number.1 in
    let behind : words ≡ node_text node.0 ++ 32 ∷ decimal number.0 =
    split_is 32 words parts.0 parts.1 ∙ ap (λ z. z ++ 32 ∷ parts.0.1) (text-node_of parts.0.0 node.0 node.1) ∙ ap (λ z. node_text node.0 ++ 32 ∷ z) written.0 in
    order_is text (orders.Ship node.0 number.0) line (low, written.1) test.1 (spelled_as text word words (codes "SHIP") (node_text node.0 ++ 32 ∷ decimal number.0) is h.0 behind)

spelled-deliver : (text word words : List ℕ) (line : CommandLine) → text ≡ word ++ 32 ∷ words → (word ≡ codes "DELIVER") × (deliver_of words ≡ Some line) → SpellsLine text line
unfolding deliver_of
spelled-deliver text word words line is h =
    let message = bind_ok (number_of words) _ line h.1 in
    let test = cond_some (nat_le 1 message.0) (Order (orders.Deliver message.0)) line message.2 in
    let low : 1 ≤ message.0 = grind (arith, nat_tests, test.0) in
    let written = decimal-number_of words message.0 message.1 in
    order_is text (orders.Deliver message.0) line (low, written.1) test.1 (spelled_as text word words (codes "DELIVER") (decimal message.0) is h.0 written.0)

spelled-take : (text word words : List ℕ) (line : CommandLine) → text ≡ word ++ 32 ∷ words → (word ≡ codes "TAKE") × (take_of words ≡ Some line) → SpellsLine text line
unfolding take_of
spelled-take text word words line is h =
    let found = one_node (λ n. Order (orders.Take n)) words line h.1 in
    order_is text (orders.Take found.0) line tt found.1 (spelled_as text word words (codes "TAKE") (node_text found.0) is h.0 found.2)

spelled-stop : (text word words : List ℕ) (line : CommandLine) → text ≡ word ++ 32 ∷ words → (word ≡ codes "STOP") × (stop_of words ≡ Some line) → SpellsLine text line
unfolding stop_of
spelled-stop text word words line is h =
    let found = one_node (λ n. Order (orders.Stop n)) words line h.1 in
    order_is text (orders.Stop found.0) line tt found.1 (spelled_as text word words (codes "STOP") (node_text found.0) is h.0 found.2)

spelled-start : (text word words : List ℕ) (line : CommandLine) → text ≡ word ++ 32 ∷ words → (word ≡ codes "START") × (start_of words ≡ Some line) → SpellsLine text line
unfolding start_of
spelled-start text word words line is h = elim (this_word words (codes "duty") _ _ _ h.1) [
  | inl duty ↦ order_is text orders.StartDuty line tt (some_is (Order orders.StartDuty) line duty.1) (spelled_as text word words (codes "START") (codes "duty") is h.0 duty.0)
  | inr node ↦ (
      let found = one_node (λ n. Order (orders.Start n)) words line node in
      order_is text (orders.Start found.0) line tt found.1 (spelled_as text word words (codes "START") (node_text found.0) is h.0 found.2))
]

pub spelled-order_by_word : (text word words : List ℕ) (line : CommandLine) → text ≡ word ++ 32 ∷ words → order_by_word word words ≡ Some line → SpellsLine text line
spelled-order_by_word text word words line is h = elim (this_word word (codes "SHIP") _ _ _ h) [
  | inl ship ↦ spelled-ship text word words line is ship
  | inr no_ship ↦ (elim (this_word word (codes "DELIVER") _ _ _ no_ship) [
    | inl deliver ↦ spelled-deliver text word words line is deliver
    | inr no_deliver ↦ (elim (this_word word (codes "TAKE") _ _ _ no_deliver) [
      | inl take ↦ spelled-take text word words line is take
      | inr no_take ↦ (elim (this_word word (codes "STOP") _ _ _ no_take) [
        | inl stop ↦ spelled-stop text word words line is stop
        | inr no_stop ↦ (elim (this_word word (codes "START") _ _ _ no_stop) [
          | inl start ↦ spelled-start text word words line is start
          | inr none ↦ cc
        ])
      ])
    ])
  ])
]
