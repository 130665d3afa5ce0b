use Rattle.std.proofs.Common.{ap, ◌∙◌}
use Rattle.text_line.specs.WordReading.{number_of}
use Rattle.text_line.proofs.NumberTexts.{number_of-decimal, decimal-number_of}
use Rattle.text_line.proofs.laws.numbers_are_read_as_spelled.Goals as goal

pub returns : goal.returns
returns c = λ bytes n. (decimal-number_of bytes n, λ spelled. ap number_of spelled.0 ∙ number_of-decimal n spelled.1)
