-- Document 02, W11: what each step did to the places, from the step list, the replies to it and the present lives of the takes.
use Rattle.std.specs.Prelude.{ℕ, eqb}
use Rattle.octets.specs.Bytes.{pick}
use Rattle.marks.specs.Incarnation.{Incarnation}
use Rattle.rules.specs.declared.Step.{Step}
use Rattle.rules.specs.declared.Told.{Told}
use Rattle.rules.specs.Step.{done, held, dropped, vanished, root, letter, receive, new, send, read, write, freeze, finish, fall, lose, sign}
use Rattle.rules.specs.Refusals.{named}
use Rattle.engine_chains.specs.Chain.{Event, nothing, cleared, sent, taken, opens, reads, writes, finishes, renewed, annihilated, successive}

-- ---- what a step that was not refused did; L: the lives after it

-- take t fell back or vanished
unfoldable pub rollback_from : ℕ → ℕ → (ℕ → Incarnation) → Event
rollback_from outcome t L = pick (eqb outcome vanished) (annihilated t) (renewed (λ u. eqb t u) L)

unfoldable pub receipt_from : Told → (ℕ → Incarnation) → Event
receipt_from w L =
    pick (eqb w.outcome dropped) (cleared w.message)
    (pick (eqb w.outcome done) (taken w.message w.transactor)
    (successive (cleared w.message) (rollback_from w.outcome w.transactor L)))

-- kind k of 5 to 10 on take t
unfoldable pub local_from : ℕ → ℕ → ℕ → (ℕ → Incarnation) → Event
local_from k outcome t L =
    pick (eqb k read) (reads t)
    (pick (eqb k write) (pick (eqb outcome held) nothing (writes t))
    (pick (eqb k freeze) nothing
    (pick (eqb k finish) (finishes t)
    (pick (eqb k fall) (pick (eqb outcome held) (finishes t) (rollback_from outcome t L))
    (pick (eqb outcome held) nothing (rollback_from outcome t L))))))

unfoldable pub event_from : Step → Told → (ℕ → Incarnation) → Event
event_from p w L =
    let t : ℕ = p.transactor in
    pick (eqb p.kind root) (renewed (λ u. eqb w.transactor u) L)
    (pick (eqb p.kind letter) (cleared w.message)
    (pick (eqb p.kind receive) (receipt_from w L)
    (pick (eqb p.kind new) (opens t w.transactor (L t))
    (pick (eqb p.kind send) (sent w.message t (L t))
    (pick (eqb p.kind lose) (cleared w.message)
    (pick (eqb p.kind sign) (pick (eqb w.outcome done) (renewed (named p.message) L) nothing)
    (local_from p.kind w.outcome t L)))))))
