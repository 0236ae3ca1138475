-- Document 01, demand 3: sessions.
use Rattle.std.specs.Prelude.{ℕ, true, ◌≡◌, List, [], ◌∷◌}
use Rattle.std.proofs.Math.Option.{Option}
use Rattle.octets.specs.Bytes.{Octets}
use Rattle.marks.specs.History.{incarnation_of}
use Rattle.maps.specs.Map.{held_at}
use Rattle.rules.specs.Layout.{Layout, Limits, in_range}
use Rattle.rules.specs.State.{State, Transactor, transactor_at, own_history}
use Rattle.rules.specs.Calls.{begin_answer, begin_image}
use Rattle.rules.specs.Promises.{BeginPromise, RunPromise, OfferPromise, ShowPromise}
use Rattle.session.specs.Provenance.{status_number, Live, Holder, Provenance}
use Rattle.session.specs.Fed.{Call, begin, run, offer, show}

-- ---- calls performed

-- What a call gives back: first its refusal, or 0; then, but for a begin,
pub data Answer : Type 0 where
  begun : ℕ → Answer
  -- the bytes lent for the replies, as they stand after the call
  ran : ℕ → List ℕ → Answer
  -- the parcel's number, or none
  offered : ℕ → Option ℕ → Answer
  -- the part of the image
  showed : ℕ → List ℕ → Answer

-- the refusal, or 0
abbrev pub refusal_in : Answer → ℕ
refusal_in (begun r) = r
refusal_in (ran r replies) = r
refusal_in (offered r message) = r
refusal_in (showed r bytes) = r

-- A call performed on the image img: the answer and the image after it are what the contract of begin, run, offer or show promises, by
-- the same definitions (rules/specs/Promises). To offer and show the image is lent for reading, so it stays.
pub data Performed (y : Layout) (img : List ℕ) : Call → Answer → List ℕ → Type 0 where
  beginning : {m : Limits} {r : ℕ} {after : List ℕ} → BeginPromise y m img r after → Performed y img (begin m) (begun r) after
  running : {list : List ℕ} {o : Octets list} {start end : ℕ} {lent : List ℕ} {r : ℕ} {after given : List ℕ}
      → RunPromise y img list start end lent r after given → Performed y img (run list o start end lent) (ran r given) after
  offering : {t r : ℕ} {message : Option ℕ} → OfferPromise y img t r message → Performed y img (offer t) (offered r message) img
  showing : {n r : ℕ} {bytes : List ℕ} → ShowPromise y img n r bytes → Performed y img (show n) (showed r bytes) img

-- "A session grown from a fresh one is an accepted begin, then any list of begins, runs, offers and shows on that image, refused ones
-- included. Each gets the image as the last left it". The index is the image as it stands after the list.
pub data Trace (y : Layout) : List ℕ → Type 0 where
  opened : (m : Limits) (img : List ℕ) → begin_answer y m img ≡ 0 → Trace y (begin_image y m img)
  called : {img after : List ℕ} → Trace y img → (c : Call) (a : Answer) → Performed y img c a after → Trace y after

-- the calls of a trace, the last one first
unfoldable pub calls_of : {y : Layout} {img : List ℕ} → Trace y img → List Call
calls_of (opened m img e) = begin m ∷ []
calls_of (called τ c a p) = c ∷ calls_of τ

-- ---- calls that follow

-- Calls one after the other, from the image img to the one after them, each on the image that the last left: of each, with the image that
-- it gets, P holds.
pub data CallsFrom (y : Layout) (P : List ℕ → Call → Type 0) (img : List ℕ) : List ℕ → Type 0 where
  none : CallsFrom y P img img
  one_more : {now after : List ℕ} {c : Call} {a : Answer} → CallsFrom y P img now → P now c → Performed y now c a after → CallsFrom y P img after

-- the session τ with these calls at its end
unfoldable pub extended : {y : Layout} {P : List ℕ → Call → Type 0} {img after : List ℕ} → Trace y img → CallsFrom y P img after → Trace y after
extended τ none = τ
extended τ (one_more {c = c} {a = a} k g p) = called (extended τ k) c a p

-- no accepted begin: the call c on the image img goes on with the same session
abbrev pub GoesOn : Layout → (img : List ℕ) → Call → Type 0
GoesOn y img c = (m : Limits) → c ≡ begin m → begin_answer y m img ≡ 0 → ⊥

-- ---- lists of calls, the last one first

-- the first of these calls is an accepted begin: its limits are in range
pub data Started (y : Layout) : List Call → Type 0 where
  first : {m : Limits} → in_range y m ≡ true → Started y (begin m ∷ [])
  later : {cs : List Call} (c : Call) → Started y cs → Started y (c ∷ cs)

-- a trace of these calls
pub record Traced (y : Layout) (cs : List Call) : Type 0 where
  pub image : List ℕ
  pub trace : Trace y image
  pub calls : calls_of trace ≡ cs

-- ---- the image beside the book

-- Live takes and own marks are the book's: every take has the book's status in the state; of a live one its own mark is there,
-- and is the book's.
pub record MatchesAt (x : Transactor) (t : ℕ) (h : Holder) : Type 0 where
  pub status : x.status ≡ status_number h.status
  pub held : Live h.status → held_at x.state t ≡ true
  pub incarnation : Live h.status → incarnation_of (own_history t x) ≡ h.history.incarnation
  pub stable : Live h.status → (own_history t x).stable ≡ h.history.stable

abbrev pub Matches : State → Provenance → Type 0
Matches s b = (t : ℕ) → MatchesAt (transactor_at s t) t (b.holders t)
