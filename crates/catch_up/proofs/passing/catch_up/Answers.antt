use Rattle.std.proofs.Common.{◌≡◌, ◌∙◌, ◌<◌, ℕ, sym, ap, subst, arith, Option, Some, None, Result, Err}
use Rattle.std.proofs.lemmas.Result.{err_from_is_err_and}
use Rattle.ali_base.specs.declared.duty.Duty.{Duty}
use Rattle.pair_core.specs.Pair.{len_of}
use Rattle.pair_core.specs.PairAnswers.{PassKeeps}
use Rattle.pair_core.specs.PairRefusals as rows
use Rattle.pair_core.specs.declared.faults.PairFault.{PairFault}
use Rattle.pair_core.specs.PairRefusals.{catch_up_refusal}
use Rattle.catch_up.specs.CatchUpAnswers.{CatchesUpDoes, CatchUpCauses}
use Rattle.catch_up.specs.Plan.{next_of}
use Rattle.catch_up.proofs.OnWay.{IsOnWay, distance_of, nothing_yet, moments_on, refused_does, refused_beside, first_on_way, passes_on, comes_closer, is_answer, ends_does, ends_causes, ends_course, ends_beside, ends_call, heard_is, end_does, end_causes, few_frames}
use Rattle.catch_up.proofs.passing.catch_up.Given.{Over}
use Rattle.catch_up.proofs.passing.catch_up.Goals as goal

pub returns-in-Some-clause-does : goal.returns-in-Some-clause-does
returns-in-Some-clause-does g c = refused_does g.D.Disk.state c.args.pair.now c.in-Some.refusal (sym c.in-Some.ensures)

pub returns-in-Some-clause-moments : goal.returns-in-Some-clause-moments
returns-in-Some-clause-moments g c = nothing_yet g.D.Disk.state c.args.pair.now g.met.D.Disk.sound

pub returns-in-Some-clause-beside : goal.returns-in-Some-clause-beside
returns-in-Some-clause-beside g c = refused_beside c.args.pair.now c.in-Some.refusal

pub loop-k-init : goal.loop-k-init
loop-k-init g c = first_on_way g.D.Disk.state c.args.pair.now (next_of c.new-plan.result) g.met.D.Disk.sound (sym c.catch_up_refusal.ensures ∙ c.in_default.is) (c.new-plan.ensures ∙ ap Some c.first_number.ensures)

-- ---- a fault of the last message

module _ (g : Over) (c : goal.After-from_residual g) where
  on_way : IsOnWay g.D.Disk.state c.args.pair.now c.loop-k.pair (Some c.in-Some-next.k)
  on_way = subst (λ (o : Option ℕ). IsOnWay g.D.Disk.state c.args.pair.now c.loop-k.pair o) (sym c.in-Some-next.ensures) c.loop-k.invariant

  not_refused : catch_up_refusal c.args.pair.now ≡ None
  not_refused = sym c.catch_up_refusal.ensures ∙ c.in_default.is

  result_is : c.from_residual.result ≡ Err c.in_err-delivered.field-0.0
  result_is = let p = err_from_is_err_and c.from_residual.result c.from_residual.ensures.1 in p.1 ∙ ap Err p.2

pub returns-in_err-delivered-clause-does : goal.returns-in_err-delivered-clause-does
returns-in_err-delivered-clause-does g c =
    let told = c.in_err-delivered.ensures in
    subst (λ (r : Result ℕ PairFault). CatchesUpDoes g.D.Disk.state c.args.pair.now c.pass_on.new.self r) (sym (result_is g c))
    (ends_does g.D.Disk.state c.args.pair.now c.loop-k.pair c.pass_on.new.self c.in-Some-next.k (on_way g c) told.call (not_refused g c) c.in_err-delivered.field-0.0 told.causes told.does)

pub returns-in_err-delivered-clause-moments : goal.returns-in_err-delivered-clause-moments
returns-in_err-delivered-clause-moments g c =
    moments_on g.D.Disk.state c.args.pair.now c.loop-k.pair c.pass_on.new.self c.in-Some-next.k (on_way g c) c.in_err-delivered.ensures.call c.in_err-delivered.ensures.moments

pub returns-in_err-delivered-clause-causes : goal.returns-in_err-delivered-clause-causes
returns-in_err-delivered-clause-causes g c =
    let told = c.in_err-delivered.ensures in
    subst (λ (r : Result ℕ PairFault). CatchUpCauses g.D.Disk.state c.args.pair.now c.pass_on.new.self r) (sym (result_is g c))
    (ends_causes g.D.Disk.state c.args.pair.now c.loop-k.pair c.pass_on.new.self c.in-Some-next.k (on_way g c) told.call (not_refused g c) c.in_err-delivered.field-0.0 told.causes)

pub returns-in_err-delivered-clause-call : goal.returns-in_err-delivered-clause-call
returns-in_err-delivered-clause-call g c =
    ends_call g.D.Disk.state c.args.pair.now c.loop-k.pair c.pass_on.new.self c.in-Some-next.k (on_way g c) c.in_err-delivered.ensures.call (not_refused g c)

pub returns-in_err-delivered-clause-keeps : goal.returns-in_err-delivered-clause-keeps
returns-in_err-delivered-clause-keeps g c =
    let told = c.in_err-delivered.ensures in
    ends_course g.D.Disk.state c.args.pair.now c.loop-k.pair c.pass_on.new.self c.in-Some-next.k (on_way g c) told.call (not_refused g c) c.in_err-delivered.field-0.0 told.causes

pub returns-in_err-delivered-clause-beside : goal.returns-in_err-delivered-clause-beside
returns-in_err-delivered-clause-beside g c =
    subst (λ (r : Result ℕ PairFault). PassKeeps c.args.pair.now c.pass_on.new.self r) (sym (result_is g c))
    (ends_beside g.D.Disk.state c.args.pair.now c.loop-k.pair c.pass_on.new.self c.in-Some-next.k (on_way g c) c.in_err-delivered.ensures.call (not_refused g c) c.in_err-delivered.field-0.0 c.in_err-delivered.ensures.beside)

pub heard-requires : goal.heard-requires
heard-requires g c =
    let way = subst (λ (o : Option ℕ). IsOnWay g.D.Disk.state c.args.pair.now c.loop-k.pair o) (sym c.in-Some-next.ensures) c.loop-k.invariant in
    let told = c.in_ok-delivered.ensures in
    (is_answer g.D.Disk.state c.args.pair.now c.loop-k.pair c.pass_on.new.self c.in-Some-next.k way told.call c.in_ok-delivered.delivered told.does told.causes).0

pub heard-requires-in-Some-next-clause-within : goal.heard-requires-in-Some-next-clause-within
heard-requires-in-Some-next-clause-within g c =
    let way = subst (λ (o : Option ℕ). IsOnWay g.D.Disk.state c.args.pair.now c.loop-k.pair o) (sym c.in-Some-next.ensures) c.loop-k.invariant in
    let told = c.in_ok-delivered.ensures in
    let fits = (is_answer g.D.Disk.state c.args.pair.now c.loop-k.pair c.pass_on.new.self c.in-Some-next.k way told.call c.in_ok-delivered.delivered told.does told.causes).1 c.heard.result c.heard.ensures in
    let few = few_frames c.loop-k.pair (rows.holder c.args.pair.now) in
    omega (arith, fits, few, way.within.1)

pub loop-k-smaller : goal.loop-k-smaller
loop-k-smaller g c =
    let way = subst (λ (o : Option ℕ). IsOnWay g.D.Disk.state c.args.pair.now c.loop-k.pair o) (sym c.in-Some-next.ensures) c.loop-k.invariant in
    let told = c.in_ok-delivered.ensures in
    let next = c.heard-in-Some-next.ensures ∙ heard_is c.in_ok-delivered.delivered c.heard.result c.heard.ensures in
    subst (λ (o : Option ℕ). distance_of c.pass_on.new.self (next_of c.heard-in-Some-next.new.self) < distance_of c.loop-k.pair o) c.in-Some-next.ensures
    (comes_closer g.D.Disk.state c.args.pair.now c.loop-k.pair c.pass_on.new.self c.in-Some-next.k way told.call c.in_ok-delivered.delivered told.does told.causes (next_of c.heard-in-Some-next.new.self) next)

pub loop-k-preserved : goal.loop-k-preserved
loop-k-preserved g c =
    let way = subst (λ (o : Option ℕ). IsOnWay g.D.Disk.state c.args.pair.now c.loop-k.pair o) (sym c.in-Some-next.ensures) c.loop-k.invariant in
    let told = c.in_ok-delivered.ensures in
    let next = c.heard-in-Some-next.ensures ∙ heard_is c.in_ok-delivered.delivered c.heard.result c.heard.ensures in
    passes_on g.D.Disk.state c.args.pair.now c.loop-k.pair c.pass_on.new.self c.in-Some-next.k way told.call c.in_ok-delivered.delivered told.does told.moments told.causes (next_of c.heard-in-Some-next.new.self) next

pub returns-clause-does : goal.returns-clause-does
returns-clause-does g c =
    let way = subst (λ (o : Option ℕ). IsOnWay g.D.Disk.state c.args.pair.now c.loop-k.pair o) (sym c.next.ensures ∙ c.in_default-next.is) c.loop-k.invariant in
    end_does g.D.Disk.state c.args.pair.now c.loop-k.pair way c.len.result (c.len.ensures ∙ ap (λ (d : Duty). len_of c.loop-k.pair d.holder) c.duty.ensures)

pub returns-clause-causes : goal.returns-clause-causes
returns-clause-causes g c =
    let way = subst (λ (o : Option ℕ). IsOnWay g.D.Disk.state c.args.pair.now c.loop-k.pair o) (sym c.next.ensures ∙ c.in_default-next.is) c.loop-k.invariant in
    end_causes g.D.Disk.state c.args.pair.now c.loop-k.pair way c.len.result (c.len.ensures ∙ ap (λ (d : Duty). len_of c.loop-k.pair d.holder) c.duty.ensures)
    (sym c.catch_up_refusal.ensures ∙ c.in_default.is)

pub returns-clause-moments : goal.returns-clause-moments
returns-clause-moments g c = c.loop-k.invariant.moments

pub returns-clause-beside : goal.returns-clause-beside
returns-clause-beside g c =
    let way = subst (λ (o : Option ℕ). IsOnWay g.D.Disk.state c.args.pair.now c.loop-k.pair o) (sym c.next.ensures ∙ c.in_default-next.is) c.loop-k.invariant in
    (way.sent, tt)
