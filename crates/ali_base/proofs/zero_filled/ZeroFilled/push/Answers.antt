use Rattle.std.proofs.Common.{◌≡◌, ◌+◌, ◌-◌, ◌≤◌, length, drop, sym, ap, ◌∙◌, arith}
use Rattle.std.specs.Prelude.{replicate}
use Rattle.std.proofs.lemmas.List.{length-take-le, drop-drop, drop-replicate}
use Rattle.std.proofs.lemmas.Slice.{drop-put_mid}
use Rattle.ali_base.proofs.zero_filled.ZeroFilled.push.Goals as goal

pub invariant_of-self : goal.invariant_of-self
invariant_of-self g c =
    let old = c.self.inside in
    let n = length c.args.field.now in
    let end = old.len + n in
    let size : length c.args.self.now ≡ old.len = ap length (sym c.self.view_is) ∙ length-take-le old.len old.bytes (omega (arith, c.self.invariant.0, c.self.told)) in
    let room : end ≤ g.row.N = omega (arith, size, c.requires) in
    let gone : g.row.N - old.len - n ≡ g.row.N - end = omega arith in (
      room,
      drop-put_mid old.len (end - old.len) old.bytes c.copy_from_slice.new.self end (omega arith) (omega (arith, c.self.invariant.0, c.self.told)) (omega (arith, c.copy_from_slice.ensures.len, ap length c.copy_from_slice.ensures.after))
          ∙ sym (drop-drop n old.len old.bytes) ∙ ap (drop n) c.self.invariant.1
          ∙ drop-replicate n (g.row.N - old.len) 0 ∙ ap (λ k. replicate k 0) gone,
    )
