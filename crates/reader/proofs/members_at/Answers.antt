use Rattle.notation.proofs.Within.{member-within, members-within}
use Rattle.std.proofs.lemmas.Result.{err_from_is_err_and}
use Rattle.reader.proofs.Picks.{members-none, members-first, members-more, members-closed, same-answer, stands}
use Rattle.reader.proofs.members_at.Goals as goal

pub returns-then-byte_at-eq125 : goal.returns-then-byte_at-eq125
returns-then-byte_at-eq125 c = members-none _ _ _ _ c.byte_at.ensures c.if-byte_at-eq125.true

pub returns-in_err-first : goal.returns-in_err-first
returns-in_err-first c = let l = members-first _ _ _ _ c.byte_at.ensures c.if-byte_at-eq125.false _ c.in_err-first.ensures in
    let p = err_from_is_err_and c.from_residual.result c.from_residual.ensures.1 in rw (p.1, p.2) l

pub more_members-requires : goal.more_members-requires
more_members-requires c = stands _ c.in_ok-first.first _ c.in_ok-first.ensures (member-within _ _ _ c.requires)

pub returns-in_err-all : goal.returns-in_err-all
returns-in_err-all c = let l = members-more _ _ _ _ c.byte_at.ensures c.if-byte_at-eq125.false c.in_ok-first.first c.in_ok-first.ensures _ c.in_err-all.ensures in
    let p = err_from_is_err_and c.from_residual-in_err-all.result c.from_residual-in_err-all.ensures.1 in rw (p.1, p.2) l

pub closed_at-requires : goal.closed_at-requires
closed_at-requires c =
    let h = stands _ c.in_ok-first.first _ c.in_ok-first.ensures (member-within _ _ _ c.requires) in
    stands _ c.in_ok-all.all _ c.in_ok-all.ensures (members-within _ _ _ h)

pub returns : goal.returns
returns c = same-answer _ _ _ c.closed_at.ensures (members-closed _ _ _ _ c.byte_at.ensures c.if-byte_at-eq125.false c.in_ok-first.first c.in_ok-first.ensures c.in_ok-all.all c.in_ok-all.ensures)
