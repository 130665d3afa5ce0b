use Rattle.std.proofs.Common.{length, ap, ◌∙◌, arith}
use Rattle.std.proofs.lemmas.Fmt.{length-decimal-le}
use Rattle.retrieval.proofs.forms.printed_house.Goals as goal

pub returns-else-house_blank-clause-len : goal.returns-else-house_blank-clause-len
returns-else-house_blank-clause-len c =
    omega (arith, ap length (c.as_bytes.ensures.value ∙ c.format.ensures.text), c.house_number.ensures.limit, length-decimal-le 6 c.house_number.result (omega arith) (omega (arith, c.house_number.ensures.limit)) (omega (arith, c.house_number.ensures.limit)))
