-- Document 01, "The book of demand 3": the calls that it is fed, and what it does at each: "begins, runs, offers and shows". What else can
-- be asked of an image is lent it for reading alone, and is no call of this list (Queries).
use Rattle.std.specs.Prelude.{ℕ, suc, ◌-◌, true, not, ◌≡◌, List, [], ◌∷◌, length, eqb, leb}
use Rattle.octets.specs.Bytes.{pick, part, Octets}
use Rattle.rules.specs.Layout.{Layout, Limits, in_range}
use Rattle.rules.specs.Step.{step_at}
-- both are about the caller's list alone
use Rattle.rules.specs.Calls.{wrong_part, steps_in}
use Rattle.session.specs.Provenance.{annihilated, status_number, Provenance, empty_provenance, is_missing}
use Rattle.session.specs.Steps.{ProvenanceStep}

-- a call, with all that a caller can choose; lent: the bytes lent for the replies, as they stand before the call
pub data Call : Type 0 where
  -- with any three numbers (document 02, W7)
  begin : Limits → Call
  run : (list : List ℕ) → Octets list → (start end : ℕ) → (lent : List ℕ) → Call
  offer : (transactor : ℕ) → Call
  show : (message : ℕ) → Call

-- ---- what the book does at a call

-- 21 and 22 of a query about take t
abbrev pub provenance_query_refusal : Provenance → ℕ → ℕ
provenance_query_refusal b t = pick (leb b.opened t) 21 (pick (eqb (status_number (b.holders t).status) (status_number annihilated)) 22 0)

-- It refuses by the same table, judged by what it holds itself; 19 never arises, nor 16 on an image that was begun.
abbrev pub call_refusal : Layout → Provenance → Call → ℕ
call_refusal y b (begin m) = pick (not (in_range y m)) 33 0
call_refusal y b (run list o start end lent) = pick (wrong_part list start end) 17 (pick (not (eqb (length lent) (end - start))) 18 0)
call_refusal y b (offer t) = provenance_query_refusal b t
call_refusal y b (show n) = pick (is_missing n b.messages) 24 0

-- the first i steps of a part
pub data ProvenanceSteps (y : Layout) (b : Provenance) (steps : List ℕ) : ℕ → Provenance → Type 1 where
  none : ProvenanceSteps y b steps 0 b
  more : {i : ℕ} {c d : Provenance} → ProvenanceSteps y b steps i c → ProvenanceStep y c (step_at steps i) d → ProvenanceSteps y b steps (suc i) d

-- "Offer, show and whatever is refused change nothing in it." "An accepted begin empties it, with all that was noted and signed", and sets
-- its limits.
pub data ProvenanceCall (y : Layout) (b : Provenance) : Call → Provenance → Type 1 where
  provenance-refuses : {c : Call} → (call_refusal y b c ≡ 0 → ⊥) → ProvenanceCall y b c b
  provenance-begins : {m : Limits} → call_refusal y b (begin m) ≡ 0 → ProvenanceCall y b (begin m) (empty_provenance m)
  provenance-runs : {list : List ℕ} {o : Octets list} {start end : ℕ} {lent : List ℕ} {c : Provenance}
      → call_refusal y b (run list o start end lent) ≡ 0
      → ProvenanceSteps y b (part start (end - start) list) (steps_in (part start (end - start) list)) c
      → ProvenanceCall y b (run list o start end lent) c
  provenance-offers : {t : ℕ} → call_refusal y b (offer t) ≡ 0 → ProvenanceCall y b (offer t) b
  provenance-shows : {n : ℕ} → call_refusal y b (show n) ≡ 0 → ProvenanceCall y b (show n) b

-- the book that is fed these calls, the last one first, and nothing else; the first one is an accepted begin
pub data ProvenanceOf (y : Layout) : List Call → Provenance → Type 1 where
  new-provenance : {m : Limits} → in_range y m ≡ true → ProvenanceOf y (begin m ∷ []) (empty_provenance m)
  fed : {cs : List Call} {c : Call} {b d : Provenance} → ProvenanceOf y cs b → ProvenanceCall y b c d → ProvenanceOf y (c ∷ cs) d
