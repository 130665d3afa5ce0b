use Rattle.std.proofs.Common.{◌-◌, ◌≤◌, ◌∙◌, ℕ, length, ap, arith, length-take}
use Rattle.commit_log.specs.LogImage.{frame_place}
use Rattle.commit_log.proofs.Cutting.{cutting, written_cut}
use Rattle.commit_log.proofs.log.Log.cut_from.Goals as goal

pub returns-in-Ok-clause-cut : goal.returns-in-Ok-clause-cut
returns-in-Ok-clause-cut g c head bodies shown =
    let high : c.args.k ≤ length bodies = omega (arith, c.requires.number.1, shown.counts) in
    let there = c.place_of_commit-place.ensures ∙ ap (λ (n : ℕ). frame_place n c.args.k) shown.long in
    record {
      kept = record {
        image = _;
        synced = c.in-Ok.ensures.synced shown.kept.image shown.kept.synced.told;
        stands = written_cut g.R.BodyReader.is_body head bodies c.args.k c.place_of_commit-place.result c.requires.number.0 high there shown.kept.image shown.kept.stands;
      };
      counts = omega (arith, length-take (c.args.k - 1) bodies, high);
      long = shown.long;
    }

pub returns-in-Ok-clause-moments : goal.returns-in-Ok-clause-moments
returns-in-Ok-clause-moments g c head bodies shown =
    let high : c.args.k ≤ length bodies = omega (arith, c.requires.number.1, shown.counts) in
    let there = c.place_of_commit-place.ensures ∙ ap (λ (n : ℕ). frame_place n c.args.k) shown.long in
    cutting g.R.BodyReader.is_body head bodies c.args.k c.place_of_commit-place.result c.requires.number.0 high there shown.kept.image shown.kept.stands _ _ (c.write_durably.ensures.moments shown.kept.image shown.kept.synced)

pub returns-in-Err-clause-moments : goal.returns-in-Err-clause-moments
returns-in-Err-clause-moments g c head bodies shown =
    let high : c.args.k ≤ length bodies = omega (arith, c.requires.number.1, shown.counts) in
    let there = c.place_of_commit-place.ensures ∙ ap (λ (n : ℕ). frame_place n c.args.k) shown.long in
    cutting g.R.BodyReader.is_body head bodies c.args.k c.place_of_commit-place.result c.requires.number.0 high there shown.kept.image shown.kept.stands _ _ (c.write_durably.ensures.moments shown.kept.image shown.kept.synced)
