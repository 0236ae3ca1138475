-- Refused as the run is; else the steps that are kept by its replies.
use Rattle.std.proofs.Common.{rules, refl, sym}
use Rattle.std.proofs.lemmas.Result.{err_from_is_err_and}
use Rattle.octets.specs.Bytes.{part}
use Rattle.octets.proofs.Put.{octets-of}
use Rattle.rules.specs.Layout.{base}
use Rattle.rules.proofs.Calls.Stored.{accepted}
use Rattle.rules.proofs.Refused.{refused}
use Rattle.thin.proofs.Thinning.{pass-refused, pass-steps, pass-0}
use Rattle.thin.proofs.thin.Goals as goal

pub returns-in_err-run_copy : goal.returns-in_err-run_copy
returns-in_err-run_copy c =
    let r = c.in_err-run_copy.ensures in
    let k = err_from_is_err_and c.from_residual.result c.from_residual.ensures.1 in
    rw (k.1, k.2) (pass-refused _ _ _ _ _ r.0 r.1 (refused _))

pub slice_bounds-shorten-count : goal.slice_bounds-shorten-count
slice_bounds-shorten-count c = (accepted base _ _ _ _ _ (sym c.in_ok-run_copy.ensures.0)).forth

pub slice_bounds-shorten-start : goal.slice_bounds-shorten-start
slice_bounds-shorten-start c = let a = accepted base _ _ _ _ _ (sym c.in_ok-run_copy.ensures.0) in search (rules, a.forth)

pub slice_bounds-shorten-end : goal.slice_bounds-shorten-end
slice_bounds-shorten-end c = let a = accepted base _ _ _ _ _ (sym c.in_ok-run_copy.ensures.0) in search (rules, a.within)

pub shorten-requires : goal.shorten-requires
unfolding part
shorten-requires c =
    let r = c.in_ok-run_copy.ensures in
    pass-steps _ _ _ _ _ r.0 r.1 refl (octets-of _ c.type_inv.image) (octets-of _ c.type_inv.list) (search rules)

pub returns : goal.returns
unfolding part
returns c =
    let r = c.in_ok-run_copy.ensures in
    pass-0 _ _ _ _ _ r.0 r.1 refl (octets-of _ c.type_inv.image) (octets-of _ c.type_inv.list) (search rules) c.shorten.ensures
