use Rattle.std.proofs.Common.{◌≡◌, List, ℕ, [], ◌∷◌, ◌++◌, codes, ap, sym, ◌∙◌}
use Rattle.std.specs.Fmt.{decimal}
use Rattle.ali_base.proofs.Puts.{puts_then, puts_stop}
use Rattle.command_desk.specs.RefusedLines.{refused_lines}
use Rattle.command_machine.specs.ReplyText.{text_of}
use Rattle.hex.specs.Hex.{encode_lower}
use Rattle.office_run.proofs.tally.Tally.put.Goals as goal
use Rattle.sha2.specs.Sha256.{sha256}
use Rattle.text_line.specs.WordLines.{line_of}

-- a line of the summary
abbrev number_line : List ℕ → ℕ → List ℕ
number_line word n = line_of (word ∷ decimal n ∷ [])

abbrev digest_line : List ℕ → List ℕ
digest_line digest = line_of (codes "DIGEST" ∷ encode_lower digest ∷ [])

-- the line that was put, and what follows it
at_front : (put line rest : List ℕ) → put ≡ line → line ++ rest ≡ put ++ rest
at_front put line rest is = ap (λ z. z ++ rest) (sym is)

pub returns-in_err-put_all-2 : goal.returns-in_err-put_all-2
returns-in_err-put_all-2 g c told refused holds =
    let fourth = digest_line (sha256 (text_of told)) in
    let third = number_line (codes "REFUSED") (refused_lines told) in
    let second = number_line (codes "BOOKED") c.args.booked in
    let first = number_line (codes "COMMANDS") c.args.commands in
    let one = c.bytes.ensures.same ∙ c.number_line.ensures ∙ ap (number_line (codes "COMMANDS")) c.from.ensures in
    let two = c.bytes-2.ensures.same ∙ c.number_line-2.ensures ∙ ap (number_line (codes "BOOKED")) c.from-2.ensures in
    puts_then (at_front c.bytes.result.now first (second ++ (third ++ fourth)) one) c.in_ok-put_all.ensures.put
    (puts_stop (third ++ fourth) (at_front c.bytes-2.result.now second (third ++ fourth) two) c.in_err-put_all-2.ensures.put c.from_residual-in_err-put_all-2.ensures.0)

pub returns-in_err-put_all-3 : goal.returns-in_err-put_all-3
returns-in_err-put_all-3 g c told refused holds =
    let fourth = digest_line (sha256 (text_of told)) in
    let third = number_line (codes "REFUSED") (refused_lines told) in
    let second = number_line (codes "BOOKED") c.args.booked in
    let first = number_line (codes "COMMANDS") c.args.commands in
    let one = c.bytes.ensures.same ∙ c.number_line.ensures ∙ ap (number_line (codes "COMMANDS")) c.from.ensures in
    let two = c.bytes-2.ensures.same ∙ c.number_line-2.ensures ∙ ap (number_line (codes "BOOKED")) c.from-2.ensures in
    let three = c.bytes-3.ensures.same ∙ c.number_line-3.ensures ∙ ap (number_line (codes "REFUSED")) refused in
    puts_then (at_front c.bytes.result.now first (second ++ (third ++ fourth)) one) c.in_ok-put_all.ensures.put
    (puts_then (at_front c.bytes-2.result.now second (third ++ fourth) two) c.in_ok-put_all-2.ensures.put
    (puts_stop fourth (at_front c.bytes-3.result.now third fourth three) c.in_err-put_all-3.ensures.put c.from_residual-in_err-put_all-3.ensures.0))

pub returns : goal.returns
returns g c told refused holds =
    let fourth = digest_line (sha256 (text_of told)) in
    let third = number_line (codes "REFUSED") (refused_lines told) in
    let second = number_line (codes "BOOKED") c.args.booked in
    let first = number_line (codes "COMMANDS") c.args.commands in
    let one = c.bytes.ensures.same ∙ c.number_line.ensures ∙ ap (number_line (codes "COMMANDS")) c.from.ensures in
    let two = c.bytes-2.ensures.same ∙ c.number_line-2.ensures ∙ ap (number_line (codes "BOOKED")) c.from-2.ensures in
    let three = c.bytes-3.ensures.same ∙ c.number_line-3.ensures ∙ ap (number_line (codes "REFUSED")) refused in
    let four = c.bytes-4.ensures.same ∙ c.digest_line.ensures ∙ ap digest_line (c.finalize.ensures (text_of told) holds) in
    puts_then (at_front c.bytes.result.now first (second ++ (third ++ fourth)) one) c.in_ok-put_all.ensures.put
    (puts_then (at_front c.bytes-2.result.now second (third ++ fourth) two) c.in_ok-put_all-2.ensures.put
    (puts_then (at_front c.bytes-3.result.now third fourth three ∙ ap (λ z. c.bytes-3.result.now ++ z) (sym four)) c.in_ok-put_all-3.ensures.put c.put_all-4.ensures.put))
