-- Document 02, W2: callers may count on receiving in sending order by repeated offers, if nothing else is received or lost between them.
use Prim.Native.Nat.{ℕ, zero, suc, ◌+◌, ◌-◌, ◌≤◌, ◌<◌}
use mathlib.Core.Path.{◌≡◌, refl, sym, ◌∙◌, subst}
use mathlib.Core.List.{List, [], ◌∷◌, ◌++◌, Memᴰ}
use mathlib.Core.Option.{some}
use mathlib.Core.Logic.{⊎_elim}
use native.Mathlib.Omega.{arith}
use borrow.Author.Tests.{leb-false, eqb-true, eq-eqb, not-false}
use lib.Dec.{eqb}
use lib.ListN.{length, get_or, length-append, get_or-append}
use Rattle.octets.specs.Bytes.{part, Octets}
use Rattle.octets.proofs.Put.{octets-part}
use Rattle.octets.proofs.Chunks.{sides}
use Rattle.octets.proofs.Tests.{pick-view, pick-zero}
use Rattle.rules.specs.Layout.{Layout, Fitting}
use Rattle.rules.specs.State.{Message, State, no_message, message_at, place_of, numbered, with_transactor, with_opened, with_message, without_message}
use Rattle.rules.specs.Step.{Step, root, letter, receive, new, send, lose, sign, step_at}
use Rattle.rules.specs.Rules.{Result, group_ready, checkpoint_group, seen, refusal, opened, apply_root, apply_letter, apply_receive, apply_new, apply_send, apply_local, apply_sign, apply, step_of}
use Rattle.rules.specs.Internal.Well.{WellFormed}
use Rattle.rules.specs.Pack.{unpack}
use Rattle.rules.specs.Calls.{state_after, steps_in, WaitsFor, LowestFor, query_refusal, Offers, waiting, run_answer, ran_image, run_image}
use Rattle.rules.specs.InOrder.{Spares, Receives, Sparing, none, one_more, Received, run, Rounds, no-round, round, Rising, empty, single, above}
use Rattle.rules.proofs.Places.{place}
use Rattle.rules.proofs.Pack.Messages.{numbers-rise}
use Rattle.rules.proofs.Keep.State.{more-all, rest, rest-before, rest-after, shorter}
use Rattle.rules.proofs.Keep.Accepted.{accepted, message-waits}
use Rattle.rules.proofs.Keep.Step.{applied-same, keeps-after}
use Rattle.rules.proofs.ByKind.Applied.{applies}
use Rattle.rules.proofs.Form.State.{formed-state}
use Rattle.rules.proofs.Pack.Sizes.{octets-pack}
use Rattle.rules.proofs.Pack.RoundTrip.{unpack-pack}

-- what holds at j, and with each step from there to k thereafter, holds at k
from-to : (P : ℕ → Type 0) (j k : ℕ) → j ≤ k → P j → ((i : ℕ) → j ≤ i → i < k → P i → P (suc i)) → P k
from-to P j zero h p f = subst P (omega arith) p
from-to P j (suc k) h p f = ⊎_elim
    (λ (q : k < j). subst P (omega arith) p)
    (λ (q : j ≤ k). f k q (omega arith) (from-to P j k q p (λ i a b. f i a (omega arith))))
    (sides k j)

-- ---- what steps do to the parcels

-- the parcels stay, or one more has the next number
data Spared (s : State) : State → Type 0 where
  same : {s' : State} → s'.next ≡ s.next → s'.messages ≡ s.messages → Spared s s'
  sent : {s' : State} (x : Message) → x.number ≡ s.next → s'.next ≡ s.next + 1 → s'.messages ≡ s.messages ++ (x ∷ []) → Spared s s'

-- parcel n, in a place, waits no more
record Without (n : ℕ) (s s' : State) : Type 0 where
  place : ℕ
  below : place < length s.messages
  number : (message_at s place).number ≡ n
  next : s'.next ≡ s.next
  messages : s'.messages ≡ rest s.messages place below

module _ (y : Layout) where
  module _ (s : State) (p : Step) where
    without-receive : p.kind ≡ receive → refusal y s p ≡ 0 → Without p.message s (step_of y s p).state
    unfolding apply_receive without_message with_transactor place_of numbered seen refusal
    without-receive k r =
        let n : ℕ = length s.messages in
        let j : ℕ = place_of s p.message in
        let below : j < n = leb-false n j (message-waits (accepted y (seen y s) p r) (rw k)) in
        subst (λ (r : Result). Without p.message s r.state) (sym (applied-same y s p r ∙ (applies y s p).receive k)) (record {
          place = j;
          below = below;
          number = eqb-true (message_at s j).number p.message ((place (numbered s p.message) 0 n).here (omega arith));
          next = refl;
          messages = refl;
        })

    spared-apply : (p.kind ≡ receive → ⊥) → (p.kind ≡ lose → ⊥) → Spared s (apply y s p).state
    unfolding apply apply_root apply_letter apply_new apply_send apply_sign apply_local opened with_opened with_transactor with_message checkpoint_group
    spared-apply no-receipt no-loss =
        let P : Result → Type 0 = λ r. Spared s r.state in
        let k : ℕ = p.kind in
        pick-view P (eqb k root) _ _ (λ e. same refl refl) λ e0.
        pick-view P (eqb k letter) _ _ (λ e. sent _ refl refl refl) λ e1.
        pick-view P (eqb k receive) _ _ (λ e. absurd (no-receipt (eqb-true k receive e))) λ e2.
        pick-view P (eqb k new) _ _ (λ e. same refl refl) λ e3.
        pick-view P (eqb k send) _ _ (λ e. sent _ refl refl refl) λ e4.
        pick-view P (eqb k lose) _ _ (λ e. absurd (no-loss (eqb-true k lose e))) λ e5.
        pick-view P (eqb k sign) _ _ (λ e. pick-view P (group_ready y s p.message) _ _ (λ f. same refl refl) (λ f. same refl refl)) λ e6. same refl refl

  spared-step : (s : State) (b : List ℕ) (i : ℕ) → Spares y s b i → Spared (state_after y s b i) (state_after y s b (suc i))
  unfolding state_after step_of
  spared-step s b i spares =
      let now : State = state_after y s b i in
      let r : ℕ = refusal y now (step_at b i) in
      pick-view (λ (r : Result). Spared now r.state) (eqb r 0) _ _
      (λ e. let q = spares (eqb-true r 0 e) in spared-apply now (step_at b i) q.0 q.1)
      (λ e. same refl refl)

-- what lasts while nothing is received or lost
abbrev Lasts : (State → Type 0) → Type 0
Lasts P = (s s' : State) → Spared s s' → P s → P s'

-- what the receipt of parcel n makes of P
record Turns (y : Layout) (n : ℕ) (P Q : State → Type 0) : Type 0 where
  before : Lasts P
  after : Lasts Q
  receipt : (s s' : State) → WellFormed y s → Without n s s' → P s → Q s'

-- ---- a bound

-- the next number and the numbers of all the parcels that wait for take t are n or above
record Above (t n : ℕ) (s : State) : Type 0 where
  sends : n ≤ s.next
  waits : (k : ℕ) → k < length s.messages → (get_or s.messages k no_message).addressee ≡ t → n ≤ (get_or s.messages k no_message).number

module _ (t n : ℕ) where
  above-spared : Lasts (Above t n)
  above-spared s s' (same e f) a = record { sends = omega (arith, e, a.sends); waits = rw f a.waits }
  above-spared s s' (sent x d e f) a = record {
    sends = omega (arith, e, a.sends);
    waits = rw f (more-all s.messages x (λ z. z.addressee ≡ t → n ≤ z.number) a.waits (λ g. omega (arith, d, a.sends)));
  }

  -- the bound itself is received
  above-without : {y : Layout} (s s' : State) → WellFormed y s → Without n s s' → Above t n s → Above t (suc n) s'
  unfolding message_at
  above-without s s' w r a =
      let ms : List Message = s.messages in
      let j : ℕ = r.place in
      let below : j < length ms = r.below in
      record {
        sends = omega (arith, r.number, r.next, w.numbers j below);
        waits = rw r.messages (λ i h f. ⊎_elim
            (λ (q : i < j). absurd (omega (arith, r.number, numbers-rise w i j q below, a.waits i (omega arith) (rw (rest-before ms j below i q) at f))))
            (λ (q : j ≤ i). rw (rest-after ms j below i q) (omega (arith, r.number, numbers-rise w j (i + 1) (omega arith) (omega (arith, shorter ms j below)))))
            (sides i j));
      }

  above-lowest : {y : Layout} (s : State) → WellFormed y s → LowestFor s t n → Above t n s
  unfolding message_at
  above-lowest s w low = record {
    sends = omega (arith, w.numbers low.waits.place low.waits.waits, low.waits.number);
    waits = λ k h e. low.lowest (message_at s k).number (record { place = k; waits = h; addressee = e; number = refl });
  }

  above-waits : (s : State) → Above t n s → (n' : ℕ) → WaitsFor s t n' → n ≤ n'
  unfolding message_at
  above-waits s a n' q = omega (arith, a.waits q.place q.waits q.addressee, q.number)

above-turns : (y : Layout) (t n : ℕ) → Turns y n (Above t n) (Above t (suc n))
above-turns y t n = record { before = above-spared t n; after = above-spared t (suc n); receipt = above-without t n }

-- ---- another parcel, which stays

-- parcel k waits for take u
abbrev Waits : ℕ → ℕ → State → Type 0
Waits u k s = WaitsFor s u k

module _ (u k : ℕ) where
  -- it has a place again
  waits-at : (s s' : State) (w : WaitsFor s u k) (j : ℕ) → message_at s w.place ≡ message_at s' j → j < length s'.messages → WaitsFor s' u k
  waits-at s s' w j e h = record { place = j; waits = h; addressee = rw (← e) w.addressee; number = rw (← e) w.number }

  waits-spared : Lasts (Waits u k)
  unfolding message_at
  waits-spared s s' (same e f) w = waits-at s s' w w.place (rw f) (rw f w.waits)
  waits-spared s s' (sent x d e f) w = waits-at s s' w w.place
      (rw f (sym (get_or-append s.messages (x ∷ []) no_message w.place w.waits)))
      (rw f (omega (arith, w.waits, length-append s.messages (x ∷ []))))

  waits-without : {y : Layout} {n : ℕ} → (k ≡ n → ⊥) → (s s' : State) → WellFormed y s → Without n s s' → WaitsFor s u k → WaitsFor s' u k
  unfolding message_at
  waits-without {y} {n} other s s' f r w =
      let ms : List Message = s.messages in
      let i : ℕ = w.place in
      let j : ℕ = r.place in
      let below : j < length ms = r.below in
      let few : length (rest ms j below) + 1 ≡ length ms = shorter ms j below in
      let apart : i ≡ j → ⊥ = λ e. other (sym w.number ∙ subst (λ (x : ℕ). (message_at s x).number ≡ n) (sym e) r.number) in
      ⊎_elim
      (λ (q : i < j). waits-at s s' w i (rw r.messages (sym (rest-before ms j below i q))) (rw r.messages (omega (arith, few))))
      (λ (q : j ≤ i).
      let back : i - 1 + 1 ≡ i = omega (arith, apart) in
      waits-at s s' w (i - 1) (rw r.messages (rw back at (sym (rest-after ms j below (i - 1) (omega (arith, apart)))))) (rw r.messages (omega (arith, few, back, w.waits))))
      (sides i j)

waits-turns : (y : Layout) (u k n : ℕ) → (k ≡ n → ⊥) → Turns y n (Waits u k) (Waits u k)
waits-turns y u k n other = record { before = waits-spared u k; after = waits-spared u k; receipt = waits-without u k other }

-- ---- a list of steps

module _ {y : Layout} (z : Fitting y) where
  module _ {s : State} {b : List ℕ} {k n : ℕ} (w : WellFormed y s) (o : Octets b) (r : Receives y s b k n) where
    after-receipt : (P Q : State → Type 0) → Turns y n P Q → P s → Q (state_after y s b k)
    unfolding state_after
    after-receipt P Q turns p =
        let j : ℕ = r.step in
        let now : State = state_after y s b j in
        let next : State = state_after y s b (suc j) in
        let before : P now = from-to (λ i. P (state_after y s b i)) 0 j (omega arith) p
        (λ i c d. turns.before _ _ (spared-step y s b i (r.spares i (omega (arith, r.within)) (λ e. omega arith)))) in
        let taken : Without n now next = subst (λ (x : ℕ). Without x now next) r.message (without-receive y now (step_at b j) r.kind r.accepted) in
        from-to (λ i. Q (state_after y s b i)) (suc j) k (omega (arith, r.within)) (turns.receipt now next (keeps-after z w b o j) taken before)
        (λ i c d. turns.after _ _ (spared-step y s b i (r.spares i d (λ e. omega arith))))

    -- Of some steps one receives parcel n, the lowest that waits for take t, and by the others nothing is received or lost. Then
    -- every parcel that waits for t after them has a higher number.
    pub received-in-order : (t : ℕ) → LowestFor s t n → (n' : ℕ) → WaitsFor (state_after y s b k) t n' → n < n'
    received-in-order t low = above-waits t (suc n) (state_after y s b k) (after-receipt (Above t n) (Above t (suc n)) (above-turns y t n) (above-lowest t n s w low))

    -- Nothing is skipped: every other parcel that waited before, for whatever take, waits after them.
    pub others-wait : (u n' : ℕ) → WaitsFor s u n' → (n' ≡ n → ⊥) → WaitsFor (state_after y s b k) u n'
    others-wait u n' v other = after-receipt (Waits u n') (Waits u n') (waits-turns y u n' n other) v

-- ---- calls

-- the image holds a well-formed state of which P says something
record Holds (y : Layout) (P : State → Type 0) (img : List ℕ) : Type 0 where
  well : WellFormed y (unpack y img)
  says : P (unpack y img)

-- an offer that is not refused is made of a well-formed state
well-offered : (y : Layout) (t : ℕ) (img : List ℕ) → Octets img → query_refusal y img t ≡ 0 → WellFormed y (unpack y img)
unfolding query_refusal
well-offered y t img o e =
    let a = pick-zero _ 16 _ (omega arith) e in
    let b = pick-zero _ 19 _ (omega arith) a.1 in
    formed-state y img (eqb-true _ _ (not-false _ a.0)) o (not-false _ b.0)

module _ {y : Layout} (z : Fitting y) where
  holds-ran : (P : State → Type 0) (img b : List ℕ) → WellFormed y (unpack y img) → Octets b → P (state_after y (unpack y img) b (steps_in b)) → Holds y P (ran_image y img b)
  unfolding ran_image
  holds-ran P img b w o p =
      let s : State = state_after y (unpack y img) b (steps_in b) in
      let v : WellFormed y s = keeps-after z w b o (steps_in b) in
      let back : s ≡ unpack y (ran_image y img b) = sym (unpack-pack y s v.packable) in
      record { well = subst (WellFormed y) back v; says = subst P back p }

  holds-sparing : (P : State → Type 0) → Lasts P → {img after : List ℕ} → Holds y P img → Sparing y img after → Holds y P after
  unfolding run_image state_after
  holds-sparing P lasts h none = h
  holds-sparing P lasts h (one_more {now} r list start end replies o spares) =
      let q = holds-sparing P lasts h r in
      let b : List ℕ = part start (end - start) list in
      pick-view (Holds y P) (eqb (run_answer y now list start end replies) 0) _ _
      (λ e. holds-ran P now b q.well (octets-part start (end - start) list o)
      (from-to (λ i. P (state_after y (unpack y now) b i)) 0 (steps_in b) (omega arith) q.says
      (λ i c d. lasts _ _ (spared-step y (unpack y now) b i (spares (eqb-true (run_answer y now list start end replies) 0 e) i d)))))
      (λ e. q)

  holds-received : (P Q : State → Type 0) {n : ℕ} → Turns y n P Q → {now after : List ℕ} → Holds y P now → Received y now n after → Holds y Q after
  unfolding run_image
  holds-received P Q turns {now} h (run list start end replies ol e r) =
      let b : List ℕ = part start (end - start) list in
      let o : Octets b = octets-part start (end - start) list ol in
      rw (eq-eqb (run_answer y now list start end replies) 0 e) (holds-ran Q now b h.well o (after-receipt z h.well o r P Q turns h.says))

  holds-all : (P Q : State → Type 0) {n : ℕ} → Turns y n P Q → {img now then after : List ℕ} → Holds y P img
      → Sparing y img now → Received y now n then → Sparing y then after → Holds y Q after
  holds-all P Q turns h before r behind = holds-sparing Q turns.after (holds-received P Q turns (holds-sparing P turns.before h before) r) behind

  -- Parcel n is offered to take t, and later a run receives it. If by the runs before and after it nothing is received or lost, then
  -- any parcel offered to t after them has a higher number.
  pub offers-in-order : (t n : ℕ) {img now then after : List ℕ} → Octets img → Offers y img t (some n)
      → Sparing y img now → Received y now n then → Sparing y then after
      → (n' : ℕ) → Offers y after t (some n') → n < n'
  offers-in-order t n {img} {now} {then} {after} o (waiting u low) before r behind n' (waiting u' low') =
      let w = well-offered y t img o u in
      let h = holds-all (Above t n) (Above t (suc n)) (above-turns y t n) (record { well = w; says = above-lowest t n (unpack y img) w low }) before r behind in
      above-waits t (suc n) (unpack y after) h.says n' low'.waits

  -- And nothing is skipped: every other parcel that waited at the offer waits after them.
  pub offers-skip-none : (t n : ℕ) {img now then after : List ℕ} → Octets img → Offers y img t (some n)
      → Sparing y img now → Received y now n then → Sparing y then after
      → (u n' : ℕ) → WaitsFor (unpack y img) u n' → (n' ≡ n → ⊥) → WaitsFor (unpack y after) u n'
  offers-skip-none t n {img} {now} {then} {after} o (waiting e low) before r behind u n' v other =
      (holds-all (Waits u n') (Waits u n') (waits-turns y u n' n other) (record { well = well-offered y t img o e; says = v }) before r behind).says

-- ---- repeated offers

-- images stay octets
octets-run : (y : Layout) (img list : List ℕ) (start end : ℕ) (replies : List ℕ) → Octets img → Octets (run_image y img list start end replies)
unfolding run_image ran_image
octets-run y img list start end replies o = pick-view Octets (eqb (run_answer y img list start end replies) 0) _ _ (λ e. octets-pack y _) (λ e. o)

module _ {y : Layout} {img : List ℕ} (o : Octets img) where
  octets-sparing : {after : List ℕ} → Sparing y img after → Octets after
  octets-sparing none = o
  octets-sparing (one_more {now} r list start end replies ol spares) = octets-run y now list start end replies (octets-sparing r)

  octets-received : {n : ℕ} {after : List ℕ} → Received y img n after → Octets after
  octets-received (run list start end replies ol e r) = octets-run y img list start end replies o

octets-rounds : {y : Layout} {t : ℕ} {img ns now : List ℕ} → Octets img → Rounds y t img ns now → Octets now
octets-rounds o no-round = o
octets-rounds o (round rs before offer between r) = octets-received (octets-sparing (octets-sparing (octets-rounds o rs) before) between) r

module _ {y : Layout} (z : Fitting y) (t : ℕ) {img : List ℕ} where
  -- By repeated offers, if nothing else is received or lost between them, parcels are received in sending order.
  pub rounds-in-order : {ns now : List ℕ} → Octets img → Rounds y t img ns now → Rising ns
  rounds-in-order o no-round = empty
  rounds-in-order o (round no-round before offer between r) = single
  rounds-in-order o (round {n = n'} (round {n} rs before offer between r) before' offer' between' r') =
      above (offers-in-order z t n (octets-sparing (octets-rounds o rs) before) offer between r before' n' offer') (rounds-in-order o (round rs before offer between r))

  holds-rounds : (k : ℕ) {ns now : List ℕ} → Holds y (Waits t k) img → Rounds y t img ns now → (Memᴰ k ns → ⊥) → Holds y (Waits t k) now
  holds-rounds k h no-round other = h
  holds-rounds k h (round {n} rs before offer between r) other =
      holds-all z (Waits t k) (Waits t k) (waits-turns y t k n (λ e. other (Memᴰ.head e)))
      (holds-sparing z (Waits t k) (waits-spared t k) (holds-rounds k h rs (λ d. other (Memᴰ.tail d))) before) between r none

  -- Nothing is skipped: a parcel that waited for t at first, and is not among those received, has a higher number than the last of
  -- them.
  pub rounds-skip-none : {n : ℕ} {ns now : List ℕ} → WellFormed y (unpack y img) → Rounds y t img (n ∷ ns) now
      → (k : ℕ) → WaitsFor (unpack y img) t k → (Memᴰ k (n ∷ ns) → ⊥) → n < k
  rounds-skip-none {n} w (round rs before (waiting e low) between r) k v other =
      let h = holds-sparing z (Waits t k) (waits-spared t k) (holds-rounds k (record { well = w; says = v }) rs (λ d. other (Memᴰ.tail d))) before in
      let not-n : k ≡ n → ⊥ = λ q. other (Memᴰ.head q) in
      omega (arith, low.lowest k h.says, not-n)

-- rising: every number is above all that were received before it
pub rising-all : {n : ℕ} {ns : List ℕ} → Rising (n ∷ ns) → (k : ℕ) → Memᴰ k ns → k < n
rising-all (single {n = n}) k x5 = elim x5 [ ]
rising-all (above h r) k (Memᴰ.head e) = omega (arith, h, e)
rising-all (above h r) k (Memᴰ.tail d) = let l = rising-all r k d in omega (arith, h, l)

-- what spares: a step that is refused, and one of any other kind
module _ (y : Layout) (s : State) (b : List ℕ) (i : ℕ) where
  pub spares-refused : (refusal y (state_after y s b i) (step_at b i) ≡ 0 → ⊥) → Spares y s b i
  spares-refused n = λ e. absurd (n e)

  pub spares-other : ((step_at b i).kind ≡ receive → ⊥) → ((step_at b i).kind ≡ lose → ⊥) → Spares y s b i
  spares-other f g = λ e. (f, g)
