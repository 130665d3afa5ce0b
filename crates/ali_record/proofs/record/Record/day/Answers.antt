use Rattle.std.proofs.Common.{IsSome, subst, sym, ap, ◌∙◌}
use Rattle.ali_base.specs.CivilDay.{day_of}
use Rattle.ali_record.proofs.Accepted.{accepted-day}
use Rattle.ali_record.proofs.record.Record.day.Goals as goal

pub unwrap-requires : goal.unwrap-requires
unwrap-requires c = subst IsSome (sym (c.read.ensures ∙ ap day_of c.field_of.ensures.value)) (accepted-day c.self.inside.bytes c.self.invariant)
