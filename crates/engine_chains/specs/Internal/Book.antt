-- The events of the book's own steps.
use Rattle.std.specs.Prelude.{ℕ, List, [], ◌∷◌, eqb}
use Rattle.octets.specs.Bytes.{pick}
use Rattle.marks.specs.Incarnation.{Incarnation, initial_incarnation, next_incarnation, checkpoint_incarnation}
use Rattle.rules.specs.Layout.{Layout, Limits}
use Rattle.rules.specs.declared.Step.{Step}
use Rattle.rules.specs.Step.{root, letter, receive, new, send, read, write, freeze, finish, fall, lose}
use Rattle.rules.specs.Refusals.{named}
use Rattle.session.specs.Provenance.{Holder, WaitingMessage, Provenance, empty_provenance, find}
use Rattle.session.specs.Steps.{is_nil, is_dropped, is_rolled_back, ProvenanceStep, refuses, applies, signing, not-ready}
use Rattle.session.specs.Fed as book
use Rattle.session.specs.Fed.{ProvenanceSteps}
use Rattle.engine_chains.specs.Chain.{Event, nothing, cleared, sent, taken, opens, reads, writes, finishes, renewed, annihilated, successive}

-- take t falls
unfoldable pub rollback_event : ℕ → Holder → Event
rollback_event t h = pick (is_nil h.history.incarnation.checkpoints) (annihilated t) (renewed (λ u. eqb t u) (λ u. next_incarnation h.history.incarnation))

-- kind k of 5 to 10 on take t
unfoldable pub acted_event : ℕ → ℕ → Holder → Event
acted_event k t h =
    pick (eqb k read) (reads t)
    (pick (eqb k write) (pick h.history.stable nothing (writes t))
    (pick (eqb k freeze) nothing
    (pick (eqb k finish) (finishes t)
    (pick (eqb k fall) (pick h.history.stable (finishes t) (rollback_event t h))
    (pick h.history.stable nothing (rollback_event t h))))))

-- the receipt of parcel q, of number n, by take t
unfoldable pub receipt_event : ℕ → ℕ → Holder → WaitingMessage → Event
receipt_event n t h q = pick (is_dropped h q) (cleared n) (pick (is_rolled_back h q) (successive (cleared n) (rollback_event t h)) (taken n t))

-- the kinds but for sign
unfoldable pub applied_event : Provenance → Step → Event
applied_event b p =
    let t : ℕ = p.transactor in
    let n : ℕ = p.message in
    let to : ℕ = (find n b.messages).addressee in
    pick (eqb p.kind root) (renewed (λ u. eqb b.opened u) (λ u. initial_incarnation))
    (pick (eqb p.kind letter) (cleared b.next)
    (pick (eqb p.kind receive) (receipt_event n to (b.holders to) (find n b.messages))
    (pick (eqb p.kind new) (opens t b.opened (b.holders t).history.incarnation)
    (pick (eqb p.kind send) (sent b.next t (b.holders t).history.incarnation)
    (pick (eqb p.kind lose) (cleared n)
    (acted_event p.kind t (b.holders t)))))))

-- a signing that signs volume g
unfoldable pub sign_event : Provenance → ℕ → Event
sign_event b g = renewed (named g) (λ t. checkpoint_incarnation (b.holders t).history.incarnation)

abbrev pub step_event : {y : Layout} {b : Provenance} {p : Step} {c : Provenance} → ProvenanceStep y b p c → Event
step_event (refuses z) = nothing
step_event {b = b} {p = p} (applies z k) = applied_event b p
step_event {b = b} {p = p} (signing z k e) = sign_event b p.message
step_event (not-ready z k e) = nothing

-- the first i steps of a list, from the empty book, the last one first
abbrev pub events_of : {y : Layout} {m : Limits} {steps : List ℕ} {i : ℕ} {b : Provenance} → ProvenanceSteps y (empty_provenance m) steps i b → List Event
events_of book.none = []
events_of (book.more τ k) = step_event k ∷ events_of τ

-- the lives in the book
abbrev pub incarnations_in : Provenance → ℕ → Incarnation
incarnations_in b u = (b.holders u).history.incarnation
