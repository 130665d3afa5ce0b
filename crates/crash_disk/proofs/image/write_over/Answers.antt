use Rattle.std.proofs.Common.{◌≡◌, ◌-◌, ◌++◌, min, length, ◌∙◌, ap, arith}
use Rattle.std.proofs.lemmas.List.{take_rest}
use Rattle.crash_disk.proofs.WrittenOver.{in_two}
use Rattle.crash_disk.proofs.image.write_over.Goals as goal

pub returns-clause-written : goal.returns-clause-written
returns-clause-written c =
    let g = c.lengthen.new.bytes.items in
    let piece = c.args.piece.now in
    let inside : c.min-inside.result ≡ min (length piece) (length g - c.args.at) = grind arith in
    c.append.ensures.bytes ∙ ap (λ l. c.put.new.bytes.items ++ l) (take_rest piece c.min-inside.result) ∙ in_two c.args.bytes.now.items g c.args.at c.lengthen.ensures.bytes piece c.put.new.bytes.items c.min-inside.result inside c.put.ensures.bytes
