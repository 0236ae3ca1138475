use Rattle.std.proofs.Common.{arith, ◌∙◌}
use Rattle.std.proofs.lemmas.Result.{err_from_is_err_and}
use Rattle.reader.proofs.Picks.{more-start, more-stop, more-end, more-on, more-off, comma-no, member-inside}
use Rattle.reader.proofs.more_members.Goals as goal

pub loop-init : goal.loop-init
loop-init c = record { within = c.requires; rest = more-start _ _ }

pub returns-then-byte_at-ne44 : goal.returns-then-byte_at-ne44
returns-then-byte_at-ne44 c = c.loop.invariant.rest ∙ more-stop _ _ _ (comma-no _ _ _ _ c.skip-comma.ensures _ c.byte_at.ensures c.if-byte_at-ne44.true)

pub member_at-requires : goal.member_at-requires
member_at-requires c = member-inside _ _ c.loop.r.step _ c.skip-comma.ensures _ c.byte_at.ensures c.if-byte_at-ne44.false _ c.skip.ensures

pub returns-in_err-r : goal.returns-in_err-r
returns-in_err-r c =
    let l = more-off _ _ c.loop.counter _ _ c.loop-test.true c.loop.invariant.rest _ _ _ c.skip-comma.ensures c.byte_at.ensures c.if-byte_at-ne44.false c.skip.ensures _ c.in_err-r.ensures in
    let p = err_from_is_err_and c.from_residual.result c.from_residual.ensures.1 in rw (p.1, p.2) l

pub loop-preserved : goal.loop-preserved
loop-preserved c =
    let l = more-on _ _ c.loop.counter _ _ c.loop-test.true c.loop.invariant.rest _ _ _ c.skip-comma.ensures c.byte_at.ensures c.if-byte_at-ne44.false c.skip.ensures c.in_ok-r.r c.in_ok-r.ensures in
    record { within = l.0; rest = l.1 }

pub returns : goal.returns
returns c = c.loop.invariant.rest ∙ more-end _ _ c.loop.counter _ (omega arith)
