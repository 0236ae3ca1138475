-- Every list of calls that starts with an accepted begin has a trace, and so a book: the book is a function of the calls.
use Prim.Native.Nat.{ℕ}
use mathlib.Core.Bool.{true, false, not}
use mathlib.Core.Path.{◌≡◌, refl, ap}
use mathlib.Core.List.{List, ◌∷◌}
use lib.ListN.{length}
use borrow.Author.Tests.{eq-eqb}
use Rattle.octets.specs.Bytes.{zeros}
use Rattle.octets.proofs.Zero.{length-zeros}
use Rattle.rules.specs.Layout.{Layout, Limits, in_range, Fitting, base, image_bytes}
use Rattle.rules.specs.Calls.{wrong_length, begin_answer}
use Rattle.rules.proofs.Keep.Step.{fitting-base}
use Rattle.session.specs.Provenance.{Provenance}
use Rattle.session.specs.Fed.{Call, begin, run, offer, show, ProvenanceOf}
use Rattle.session.specs.Trace.{Answer, Performed, beginning, running, offering, showing, opened, called, calls_of, Started, first, later, Traced}
use Rattle.session.proofs.Calls.{Holds}
use Rattle.session.proofs.Queries.{offers-exist}
use Rattle.session.proofs.Grown.{grown}

-- ---- every call is performed

performs : {y : Layout} {img : List ℕ} {b : Provenance} → Holds y img b → (c : Call)
    → (a : Answer) × (after : List ℕ) × Performed y img c a after
performs h (begin m) = (_, _, beginning (refl, refl))
performs h (run list o start end lent) = (_, _, running (refl, refl, refl))
performs {y} {img} h (offer t) = (_, _, offering (refl, (offers-exist y img t).1))
performs h (show n) = (_, _, showing (refl, refl))

-- ---- every list of calls, the last one first

-- an image of the right length is begun
pub fresh-begins : (y : Layout) (m : Limits) → in_range y m ≡ true → begin_answer y m (zeros (image_bytes y)) ≡ 0
unfolding begin_answer
fresh-begins y m r =
    let e : wrong_length y (zeros (image_bytes y)) ≡ false = ap not (eq-eqb (length (zeros (image_bytes y))) (image_bytes y) (length-zeros (image_bytes y))) in
    rw (e, r)

pub every-list : {y : Layout} → Fitting y → {cs : List Call} → Started y cs → Traced y cs
unfolding calls_of
every-list {y} z (first {m} r) = record { image = _; trace = opened m (zeros (image_bytes y)) (fresh-begins y m r); calls = refl }
every-list {y} z (later c s) =
    let k = every-list z s in
    let p = performs (grown z k.trace).holds c in
    record { image = p.1; trace = called k.trace c p.0 p.2; calls = ap (λ xs. c ∷ xs) k.calls }

-- the same at the ledger's own layout
pub every-list-base : {cs : List Call} → Started base cs → Traced base cs
every-list-base = every-list fitting-base

-- ---- the book of a list of calls

-- Every list of calls that starts with an accepted begin has a book.
pub provenance-exists : {y : Layout} → Fitting y → {cs : List Call} → Started y cs → (b : Provenance) × ProvenanceOf y cs b
provenance-exists {y} z s =
    let k = every-list z s in
    let d = grown z k.trace in
    (d.provenance, rw k.calls at d.fed)
