-- What the code tests is what specs/Independent says: q sees something that p changes exactly if the tests of specs/Internal/Footprint hold.
use Rattle.std.specs.Prelude.{Option, Some, None}
use Prim.Native.Nat.{ℕ, zero, suc, ◌≤◌, ◌<◌}
use mathlib.Core.Bool.{Bool, true, false, not}
use mathlib.Core.Path.{◌≡◌, refl, sym, ap, ◌∙◌, subst}
use mathlib.Core.List.{List, [], ◌∷◌}
use mathlib.Core.Logic.{◌⊎◌, inl, inr, ⊎_elim}
use native.Mathlib.Omega.{arith}
use lib.Dec.{eqb, leb}
use lib.ListN.{length, get_or}
use borrow.Author.Tests.{eqb-true, eqb-false, eq-eqb, ne_eqb, leb-true, le-leb, lt-leb, not-true, not-false}
use Rattle.octets.specs.Bytes.{pick, ◌and◌, ◌or◌, part, any, Octets}
use Rattle.octets.specs.Numbers.{bound}
use Rattle.octets.proofs.Put.{part-whole}
use Rattle.octets.proofs.Tests.{never, true-or-false, pick-zero, and-of, and-off, or-to, or-of, or_off}
use Rattle.octets.proofs.Chunks.{sides}
use Rattle.octets.proofs.Zero.{both, any-on, any_at}
use Rattle.marks.specs.Incarnation.{Incarnation, same_list, checkpointed_in}
use Rattle.marks.specs.History.{incarnation_of}
use Rattle.marks.proofs.Tests.{same_list-test}
use Rattle.rules.specs.Layout.{base, image_bytes}
use Rattle.rules.specs.State.{Transactor, State, live, transactor_at, message_at, own_history, place_of, numbered, no_transactor}
use Rattle.rules.specs.declared.Step.{Step}
use Rattle.rules.specs.Step.{root, letter, receive, new, send, lose, sign, step_bytes, unpack_step}
use Rattle.rules.specs.Refusals.{named, any_named, acts, sends, malformed}
use Rattle.rules.specs.Rules.{group_ready, refusal, seen, step_of}
use Rattle.rules.specs.Pack.{unpack}
use Rattle.rules.specs.Form.{well_formed}
use Rattle.rules.specs.Calls.{WaitsFor}
use Rattle.rules.specs.Internal.Well.{StepOk, WellFormed}
use Rattle.rules.specs.Internal.Good.{Good}
use Rattle.rules.specs.Independent.{Cell, whole, there, signed, parcel, room, opens, takes_away, has_mark, signed_in, Sees, Changes, Unseen, Independent, independent_refusal, IndependentAnswer}
use Rattle.rules.proofs.Bits.{named_past}
use Rattle.rules.proofs.Places.{Place, place}
use Rattle.rules.proofs.Pack.Messages.{numbers-rise}
use Rattle.rules.proofs.Keep.Accepted.{accepted, one-unopened}
use Rattle.rules.proofs.Good.{good-formed}
use Rattle.rules.proofs.Keep.Run.{step_ok-unpack}
use Rattle.rules.proofs.Keep.Step.{fitting-base, keeps}
use Rattle.rules.proofs.Independent.Effects.{waits-for}
use Rattle.rules.proofs.Independent.Steps.{whole-seen}
use Rattle.independence.specs.Internal.Footprint.{receiver_of, is_take, touches_in, leaves, transactors_meet, addresses, handles, handled, parcels_meet, is_crowded, heads_meet, relisted, has_marks, lists_meet, meets}
use Rattle.independence.proofs.Clauses.{touch-sign, touch-receive, touch-else, handled-sent, handled-other}
use Rattle.independence.proofs.Signing.{same-signed, other-signed}

-- ---- tests

-- the first n have one at which f holds
any-within : (f : ℕ → Bool) (n : ℕ) → any n f ≡ true → (i : ℕ) × (i < n) × (f i ≡ true)
unfolding any
any-within f zero e = never (sym e)
any-within f (suc n) e = ⊎_elim
    (λ p. let r = any-within f n p in (r.0, omega (arith, r.1), r.2))
    (λ p. (n, omega arith, p))
    (or-to (any n f) (f n) e)

-- kinds that exclude each other
record Neither (k : ℕ) : Type 0 where
  receive : k ≡ receive → ⊥
  sign : k ≡ sign → ⊥

opens-neither : (k : ℕ) → opens k ≡ true → Neither k
opens-neither k e = ⊎_elim
    (λ f. let i : k ≡ root = eqb-true k root f in record { receive = λ (g : k ≡ 2). omega arith; sign = λ (g : k ≡ 12). omega arith })
    (λ f. let i : k ≡ new = eqb-true k new f in record { receive = λ (g : k ≡ 2). omega arith; sign = λ (g : k ≡ 12). omega arith })
    (or-to (eqb k root) (eqb k new) e)

acts-neither : (k : ℕ) → acts k ≡ true → Neither k
acts-neither k e =
    let r = both (leb 3 k) (leb k 10) e in
    let low : 3 ≤ k = leb-true 3 k r.0 in
    let high : k ≤ 10 = leb-true k 10 r.1 in
    record { receive = λ (g : k ≡ 2). omega arith; sign = λ (g : k ≡ 12). omega arith }

sends-opens : (k : ℕ) → sends k ≡ true → opens k ≡ false
sends-opens k e = ⊎_elim
    (λ f. let i : k ≡ letter = eqb-true k letter f in rw (ne_eqb k 0 (λ (g : k ≡ 0). omega arith), ne_eqb k 3 (λ (g : k ≡ 3). omega arith)))
    (λ f. let i : k ≡ send = eqb-true k send f in rw (ne_eqb k 0 (λ (g : k ≡ 0). omega arith), ne_eqb k 3 (λ (g : k ≡ 3). omega arith)))
    (or-to (eqb k letter) (eqb k send) e)

away-opens : (k : ℕ) → takes_away k ≡ true → opens k ≡ false
away-opens k e = ⊎_elim
    (λ f. let i : k ≡ receive = eqb-true k receive f in rw (ne_eqb k 0 (λ (g : k ≡ 0). omega arith), ne_eqb k 3 (λ (g : k ≡ 3). omega arith)))
    (λ f. let i : k ≡ lose = eqb-true k lose f in rw (ne_eqb k 0 (λ (g : k ≡ 0). omega arith), ne_eqb k 3 (λ (g : k ≡ 3). omega arith)))
    (or-to (eqb k receive) (eqb k lose) e)

-- past all takes
past : {A : Type 0} (l : List A) (t : ℕ) (d : A) → length l ≤ t → get_or l t d ≡ d
past [] t d h = refl
past (x ∷ l) zero d h = absurd (omega (arith, h))
past (x ∷ l) (suc t) d h = past l t d (omega (arith, h))

no-take : (s : State) (t : ℕ) → length s.transactors ≡ 16 → 16 ≤ t → transactor_at s t ≡ no_transactor
unfolding transactor_at
no-take s t e h = past s.transactors t no_transactor (omega arith)

-- the list of take t's own mark
abbrev list : ℕ → State → List ℕ
list t s = (incarnation_of (own_history t (transactor_at s t))).checkpoints

-- ---- takes that are seen whole

module _ {s : State} (w : WellFormed base s) where
  -- the parcel with number n waits for one take alone
  receiver-waits : (t n : ℕ) → WaitsFor s t n → receiver_of s n ≡ Some t
  unfolding receiver_of place_of numbered
  receiver-waits t n v =
      let f : ℕ → Bool = λ k. eqb (message_at s k).number n in
      let r : Place f 0 (length s.messages) (place_of s n) = place f 0 (length s.messages) in
      let at : f v.place ≡ true = eq-eqb (message_at s v.place).number n v.number in
      let high : place_of s n ≤ v.place = ⊎_elim
      (λ (h : v.place < place_of s n). never (sym at ∙ r.before v.place (omega arith) h))
      (λ (h : place_of s n ≤ v.place). h)
      (sides v.place (place_of s n)) in
      let below : place_of s n < length s.messages = omega (arith, v.waits) in
      let same : (message_at s (place_of s n)).number ≡ n = eqb-true (message_at s (place_of s n)).number n (r.here (omega arith)) in
      let e : place_of s n ≡ v.place = ⊎_elim
      (λ (h : place_of s n < v.place). absurd (omega (arith, numbers-rise w (place_of s n) v.place h v.waits, same, v.number)))
      (λ (h : v.place ≤ place_of s n). omega arith)
      (sides (place_of s n) v.place) in
      ap (λ (c : Bool). pick c None (Some (message_at s (place_of s n)).addressee)) (lt-leb (length s.messages) (place_of s n) below)
      ∙ ap Some (ap (λ (k : ℕ). (message_at s k).addressee) e ∙ v.addressee)

  waits-receiver : (t n : ℕ) → is_take (receiver_of s n) t ≡ true → WaitsFor s t n
  unfolding receiver_of
  waits-receiver t n e = ⊎_elim
      (λ (f : leb (length s.messages) (place_of s n) ≡ true). never (sym e ∙ ap (λ (c : Bool). is_take (pick c None (Some (message_at s (place_of s n)).addressee)) t) f))
      (λ (f : leb (length s.messages) (place_of s n) ≡ false).
      subst (λ (u : ℕ). WaitsFor s u n)
      (eqb-true (message_at s (place_of s n)).addressee t (sym (ap (λ (c : Bool). is_take (pick c None (Some (message_at s (place_of s n)).addressee)) t) f) ∙ e))
      (waits-for s n f))
      (true-or-false (leb (length s.messages) (place_of s n)))

  module _ (q : Step) where
    else-touch : Neither q.kind → (t : ℕ) → touches_in s q t ≡ (opens q.kind and eqb s.opened t) or (acts q.kind and eqb q.transactor t)
    else-touch n t = touch-else s.opened (receiver_of s q.message) t q n.sign n.receive

    sees-touch : {t : ℕ} → Sees s q (whole t) → touches_in s q t ≡ true
    sees-touch (Sees.acting k) =
        else-touch (acts-neither q.kind k) q.transactor
        ∙ or-of (opens q.kind and eqb s.opened q.transactor) _ (inr (and-of (acts q.kind) _ k (eq-eqb q.transactor q.transactor refl)))
    sees-touch (Sees.opening k) =
        else-touch (opens-neither q.kind k) s.opened
        ∙ or-of (opens q.kind and eqb s.opened s.opened) _ (inl (and-of (opens q.kind) _ k (eq-eqb s.opened s.opened refl)))
    sees-touch (Sees.receiving t k v) =
        sym (touch-receive s.opened (receiver_of s q.message) t q (λ (f : q.kind ≡ sign). omega (arith, k, f)) k)
        ∙ ap (λ (r : Option ℕ). is_take r t) (receiver-waits t q.message v) ∙ eq-eqb t t refl
    sees-touch (Sees.naming t k n) = sym (touch-sign s.opened (receiver_of s q.message) t q k) ∙ n

    touch-sees : (t : ℕ) → touches_in s q t ≡ true → Sees s q (whole t)
    touch-sees t e = by (true-or-false (eqb q.kind sign)) (true-or-false (eqb q.kind receive))
      where
        acting : (acts q.kind ≡ true) × (eqb q.transactor t ≡ true) → Sees s q (whole t)
        acting r = subst (λ (u : ℕ). Sees s q (whole u)) (eqb-true q.transactor t r.1) (Sees.acting r.0)

        opening : (opens q.kind ≡ true) × (eqb s.opened t ≡ true) → Sees s q (whole t)
        opening r = subst (λ (u : ℕ). Sees s q (whole u)) (eqb-true s.opened t r.1) (Sees.opening r.0)

        by : (eqb q.kind sign ≡ true) ⊎ (eqb q.kind sign ≡ false) → (eqb q.kind receive ≡ true) ⊎ (eqb q.kind receive ≡ false) → Sees s q (whole t)
        by (inl f) g =
            let k : q.kind ≡ sign = eqb-true q.kind sign f in
            Sees.naming t k (touch-sign s.opened (receiver_of s q.message) t q k ∙ e)
        by (inr f) (inl g) =
            let k : q.kind ≡ receive = eqb-true q.kind receive g in
            Sees.receiving t k (waits-receiver t q.message (touch-receive s.opened (receiver_of s q.message) t q (eqb-false q.kind sign f) k ∙ e))
        by (inr f) (inr g) =
            let n : Neither q.kind = record { receive = eqb-false q.kind receive g; sign = eqb-false q.kind sign f } in
            ⊎_elim
            (λ r. opening (both (opens q.kind) (eqb s.opened t) r))
            (λ r. acting (both (acts q.kind) (eqb q.transactor t) r))
            (or-to (opens q.kind and eqb s.opened t) (acts q.kind and eqb q.transactor t) (sym (else-touch n t) ∙ e))

    -- a letter or a send
    sees-there : {t : ℕ} → Sees s q (there t) → addresses q t ≡ true
    unfolding addresses
    sees-there (Sees.letter-to k) = or-of _ _ (inl (and-of (eqb q.kind letter) (eqb q.transactor q.transactor) (eq-eqb q.kind letter k) (eq-eqb q.transactor q.transactor refl)))
    sees-there (Sees.send-to k) = or-of (eqb q.kind letter and eqb q.transactor q.other) _ (inr (and-of (eqb q.kind send) (eqb q.other q.other) (eq-eqb q.kind send k) (eq-eqb q.other q.other refl)))

    there-sees : (t : ℕ) → addresses q t ≡ true → Sees s q (there t)
    unfolding addresses
    there-sees t e = ⊎_elim
        (λ f. let r = both (eqb q.kind letter) (eqb q.transactor t) f in subst (λ (u : ℕ). Sees s q (there u)) (eqb-true q.transactor t r.1) (Sees.letter-to (eqb-true q.kind letter r.0)))
        (λ f. let r = both (eqb q.kind send) (eqb q.other t) f in subst (λ (u : ℕ). Sees s q (there u)) (eqb-true q.other t r.1) (Sees.send-to (eqb-true q.kind send r.0)))
        (or-to (eqb q.kind letter and eqb q.transactor t) (eqb q.kind send and eqb q.other t) e)

    -- the parcel that a step handles
    away-not-sent : takes_away q.kind ≡ true → sends q.kind ≡ false
    away-not-sent e = ⊎_elim
        (λ f. let k : q.kind ≡ receive = eqb-true q.kind receive f in rw (ne_eqb q.kind 1 (λ (g : q.kind ≡ 1). omega arith), ne_eqb q.kind 4 (λ (g : q.kind ≡ 4). omega arith)))
        (λ f. let k : q.kind ≡ lose = eqb-true q.kind lose f in rw (ne_eqb q.kind 1 (λ (g : q.kind ≡ 1). omega arith), ne_eqb q.kind 4 (λ (g : q.kind ≡ 4). omega arith)))
        (or-to (eqb q.kind receive) (eqb q.kind lose) e)

    sees-parcel : {n : ℕ} → Sees s q (parcel n) → (handles q.kind ≡ true) × (handled s.next q ≡ n)
    sees-parcel (Sees.making k) = (or-of (takes_away q.kind) (sends q.kind) (inr k), sym (handled-sent s.next q k))
    sees-parcel (Sees.taking k) = (or-of (takes_away q.kind) (sends q.kind) (inl k), sym (handled-other s.next q (away-not-sent k)))

    parcel-sees : handles q.kind ≡ true → Sees s q (parcel (handled s.next q))
    parcel-sees e = ⊎_elim
        (λ k. subst (λ (n : ℕ). Sees s q (parcel n)) (handled-other s.next q (away-not-sent k)) (Sees.taking k))
        (λ k. subst (λ (n : ℕ). Sees s q (parcel n)) (handled-sent s.next q k) (Sees.making k))
        (or-to (takes_away q.kind) (sends q.kind) e)

    sees-room : Sees s q room → sends q.kind ≡ true
    sees-room (Sees.placing k) = k

    module _ (ok : StepOk q) where
      named-low : (t : ℕ) → named q.message t ≡ true → t < 16
      unfolding bound
      named-low t n = ⊎_elim
          (λ (h : t < 16). h)
          (λ (h : 16 ≤ t). never (sym n ∙ named_past q.message t 16 ok.message h))
          (sides t 16)

      sees-signed : {u : ℕ} → Sees s q (signed u) → (q.kind ≡ sign) × (has_marks s q.message u ≡ true)
      unfolding has_marks any_named
      sees-signed (Sees.resting t u k n h) = (k, any-on (λ i. named q.message i and has_mark (transactor_at s i) u) 16 t (named-low t n) (and-of (named q.message t) (has_mark (transactor_at s t) u) n h))

    signed-sees : (u : ℕ) → q.kind ≡ sign → has_marks s q.message u ≡ true → Sees s q (signed u)
    unfolding has_marks any_named
    signed-sees u k e =
        let r = any-within (λ i. named q.message i and has_mark (transactor_at s i) u) 16 e in
        let h = both (named q.message r.0) (has_mark (transactor_at s r.0) u) r.2 in
        Sees.resting r.0 u k h.0 h.1

  -- ---- what p changes, which is not refused

  module _ (p : Step) (ok : StepOk p) (z : refusal base s p ≡ 0) where
    changes-low : {t : ℕ} → Changes base s p (whole t) → t < 16
    unfolding refusal seen
    changes-low (Changes.acting k n) = ok.transactor
    changes-low (Changes.opening k) = omega (arith, one-unopened (accepted base (seen base s) p z) k, w.limits.transactors-high)
    changes-low (Changes.receiving t k v) = omega (arith, w.addressees v.place v.waits, v.addressee, w.opened, w.limits.transactors-high)
    changes-low (Changes.naming t k r n) = named-low p ok t n

    changes-moves : {t : ℕ} → Changes base s p (whole t) → leaves base s p ≡ false
    unfolding leaves
    changes-moves (Changes.acting k n) =
        let a = acts-neither p.kind k in rw (ne_eqb p.kind 4 n, ne_eqb p.kind 12 a.sign)
    changes-moves (Changes.opening k) =
        let a = opens-neither p.kind k in rw (ne_eqb p.kind 4 (not-send k), ne_eqb p.kind 12 a.sign)
      where
        not-send : opens p.kind ≡ true → p.kind ≡ 4 → ⊥
        not-send k e = never (sym k ∙ rw e)
    changes-moves (Changes.receiving t k v) = rw (ne_eqb p.kind 4 (λ (e : p.kind ≡ 4). omega (arith, k, e)), ne_eqb p.kind 12 (λ (e : p.kind ≡ 12). omega (arith, k, e)))
    changes-moves (Changes.naming t k r n) = rw (ne_eqb p.kind 4 (λ (e : p.kind ≡ 4). omega (arith, k, e)), eq-eqb p.kind 12 k, r)

    moves-changes : {t : ℕ} → leaves base s p ≡ false → Sees s p (whole t) → Changes base s p (whole t)
    unfolding leaves
    moves-changes l (Sees.acting k) = Changes.acting k (eqb-false p.kind send (or_off (eqb p.kind send) _ l).0)
    moves-changes l (Sees.opening k) = Changes.opening k
    moves-changes l (Sees.receiving t k v) = Changes.receiving t k v
    moves-changes l (Sees.naming t k n) =
        Changes.naming t k (not-false (group_ready base s p.message) (and-off (eqb p.kind sign) _ (or_off (eqb p.kind send) _ l).1 (eq-eqb p.kind sign k))) n

    after : WellFormed base (step_of base s p).state
    after = keeps fitting-base w ok

    -- which lives are signed: of a take that the layout has not, none
    past_same : (t : ℕ) → 16 ≤ t → (a : Incarnation) → signed_in (step_of base s p).state t a ≡ signed_in s t a
    past_same t h a =
        ap (λ (x : Transactor). live x and checkpointed_in a (incarnation_of (own_history t x)))
        (no-take (step_of base s p).state t after.packable.many h ∙ sym (no-take s t w.packable.many h))

    relists : {t : ℕ} → Changes base s p (signed t) → (t < 16) × (relisted s (step_of base s p).state t ≡ true)
    unfolding relisted
    relists (Changes.signing t a d) = ⊎_elim
        (λ (h : t < 16). (
          h,
          ⊎_elim
              (λ (e : same_list (list t s) (list t (step_of base s p).state) ≡ true). absurd (d (same-signed w after t h ((same_list-test _ _).0 e) a)))
              (λ (e : same_list (list t s) (list t (step_of base s p).state) ≡ false). ap not e)
              (true-or-false (same_list (list t s) (list t (step_of base s p).state))),
        ))
        (λ (h : 16 ≤ t). absurd (d (past_same t h a)))
        (sides t 16)

    relisted-changes : (t : ℕ) → t < 16 → relisted s (step_of base s p).state t ≡ true → Changes base s p (signed t)
    unfolding relisted
    relisted-changes t h e =
        let r = other-signed w after t h (λ (f : list t s ≡ list t (step_of base s p).state). never (sym ((same_list-test _ _).1 f) ∙ not-true (same_list (list t s) (list t (step_of base s p).state)) e)) in
        Changes.signing t r.0 r.1

-- ---- two steps

module _ {s : State} (w : WellFormed base s) (p q : Step) (ok : StepOk p) (ok' : StepOk q) where
  abbrev s' : State
  s' = (step_of base s p).state

  abbrev tests : Bool
  tests = heads_meet s p q or (not (leaves base s p) and transactors_meet base s p q) or lists_meet base s s' q

  record Off : Type 0 where
    heads : heads_meet s p q ≡ false
    takes : not (leaves base s p) and transactors_meet base s p q ≡ false
    lists : lists_meet base s s' q ≡ false

  off : meets base s p q ≡ false → refusal base s p ≡ 0 → malformed q ≡ false → Off
  unfolding meets
  off e z f =
      let a : eqb (refusal base s p) 0 and tests ≡ false = and-off (not (malformed q)) _ e (ap not f) in
      let b : tests ≡ false = and-off (eqb (refusal base s p) 0) tests a (eq-eqb (refusal base s p) 0 z) in
      let h = or_off (heads_meet s p q) _ b in
      let t = or_off (not (leaves base s p) and transactors_meet base s p q) _ h.1 in
      record { heads = h.0; takes = t.0; lists = t.1 }

  abbrev freed : Bool
  freed = is_crowded s and takes_away p.kind and sends q.kind

  abbrev same : Bool
  same = handles p.kind and handles q.kind and eqb (handled s.next p) (handled s.next q)

  module _ (z : refusal base s p ≡ 0) where
    parcels-off : heads_meet s p q ≡ false → opens p.kind ≡ false → (freed ≡ false) × (same ≡ false)
    unfolding heads_meet parcels_meet
    parcels-off h k = or_off freed same (sym (ap (λ (c : Bool). pick c (addresses q s.opened) (freed or same)) k) ∙ h)

    -- the same parcel
    same-parcel : heads_meet s p q ≡ false → opens p.kind ≡ false → handles p.kind ≡ true → {n : ℕ} → handled s.next p ≡ n → Sees s q (parcel n) → ⊥
    same-parcel h o k {n} e v =
        let r = sees-parcel w q v in
        never (sym (and-of (handles p.kind) _ k (and-of (handles q.kind) _ r.0 (eq-eqb (handled s.next p) (handled s.next q) (e ∙ sym r.1)))) ∙ (parcels-off h o).1)

    wholes : Off → {t : ℕ} → Changes base s p (whole t) → Sees s q (whole t) → ⊥
    unfolding transactors_meet
    wholes o {t} k v =
        let none : transactors_meet base s p q ≡ false = and-off (not (leaves base s p)) _ o.takes (ap not (changes-moves w p ok z k)) in
        never (sym (and-of (touches_in s p t) (touches_in s q t) (sees-touch w p (whole-seen k)) (sees-touch w q v))
        ∙ any_at (λ u. touches_in s p u and touches_in s q u) 16 t none (changes-low w p ok z k))

    apart : Off → {c : Cell} → Changes base s p c → Sees s q c → ⊥
    unfolding heads_meet lists_meet
    apart o (Changes.acting k n) v = wholes o (Changes.acting k n) v
    apart o (Changes.opening k) v = wholes o (Changes.opening k) v
    apart o (Changes.opened k) v = never (sym (sees-there w q v) ∙ sym (ap (λ (c : Bool). pick c (addresses q s.opened) (parcels_meet s.next (is_crowded s) p q)) k) ∙ o.heads)
    apart o (Changes.making k) v = same-parcel o.heads (sends-opens p.kind k) (or-of (takes_away p.kind) (sends p.kind) (inr k)) (sym (handled-sent s.next p k)) v
    apart o (Changes.taking k) v = same-parcel o.heads (away-opens p.kind k) (or-of (takes_away p.kind) (sends p.kind) (inl k)) (sym (handled-other s.next p (away-not-sent w p k))) v
    apart o (Changes.freeing k h) v =
        never (sym (and-of (is_crowded s) _ (le-leb s.limits.messages (length s.messages) h) (and-of (takes_away p.kind) _ k (sees-room w q v))) ∙ (parcels-off o.heads (away-opens p.kind k)).0)
    apart o (Changes.receiving t k x) v = wholes o (Changes.receiving t k x) v
    apart o (Changes.naming t k r n) v = wholes o (Changes.naming t k r n) v
    apart o (Changes.signing t a d) v =
        let r = relists w p ok z (Changes.signing t a d) in
        let h = sees-signed w q ok' v in
        never (sym (and-of (eqb q.kind sign) _ (eq-eqb q.kind sign h.0)
        (any-on (λ u. relisted s s' u and has_marks s q.message u) 16 t r.0 (and-of (relisted s s' t) (has_marks s q.message t) r.1 h.1))) ∙ o.lists)

  pub unseen_of : meets base s p q ≡ false → Unseen base s p q
  unseen_of e = record { by = λ z f c k v. apart z (off e z f) k v }

  -- ---- the other way round

  module _ (z : refusal base s p ≡ 0) (f : malformed q ≡ false) (u : Unseen base s p q) where
    clash : (c : Cell) → Changes base s p c → Sees s q c → ⊥
    clash = u.by z f

    seen-heads : heads_meet s p q ≡ true → ⊥
    unfolding heads_meet parcels_meet
    seen-heads e = ⊎_elim
        (λ (k : opens p.kind ≡ true).
        clash (there s.opened) (Changes.opened k) (there-sees w q s.opened (sym (ap (λ (c : Bool). pick c (addresses q s.opened) (freed or same)) k) ∙ e)))
        (λ (k : opens p.kind ≡ false). ⊎_elim
        (λ (g : freed ≡ true).
        let a = both (is_crowded s) _ g in
        let b = both (takes_away p.kind) (sends q.kind) a.1 in
        clash room (Changes.freeing b.0 (leb-true s.limits.messages (length s.messages) a.0)) (Sees.placing b.1))
        (λ (g : same ≡ true).
        let a = both (handles p.kind) _ g in
        let b = both (handles q.kind) _ a.1 in
        let n : handled s.next p ≡ handled s.next q = eqb-true (handled s.next p) (handled s.next q) b.1 in
        clash (parcel (handled s.next p)) (parcel-changes a.0) (subst (λ (i : ℕ). Sees s q (parcel i)) (sym n) (parcel-sees w q b.0)))
        (or-to freed same (sym (ap (λ (c : Bool). pick c (addresses q s.opened) (freed or same)) k) ∙ e)))
        (true-or-false (opens p.kind))
      where
        parcel-changes : handles p.kind ≡ true → Changes base s p (parcel (handled s.next p))
        parcel-changes h = ⊎_elim
            (λ k. subst (λ (n : ℕ). Changes base s p (parcel n)) (handled-other s.next p (away-not-sent w p k)) (Changes.taking k))
            (λ k. subst (λ (n : ℕ). Changes base s p (parcel n)) (handled-sent s.next p k) (Changes.making k))
            (or-to (takes_away p.kind) (sends p.kind) h)

    seen-transactors : not (leaves base s p) and transactors_meet base s p q ≡ true → ⊥
    unfolding transactors_meet
    seen-transactors e =
        let a = both (not (leaves base s p)) _ e in
        let r = any-within (λ t. touches_in s p t and touches_in s q t) 16 a.1 in
        let h = both (touches_in s p r.0) (touches_in s q r.0) r.2 in
        clash (whole r.0) (moves-changes w p ok z (not-true (leaves base s p) a.0) (touch-sees w p r.0 h.0)) (touch-sees w q r.0 h.1)

    seen-lists : lists_meet base s s' q ≡ true → ⊥
    unfolding lists_meet
    seen-lists e =
        let a = both (eqb q.kind sign) _ e in
        let r = any-within (λ t. relisted s s' t and has_marks s q.message t) 16 a.1 in
        let h = both (relisted s s' r.0) (has_marks s q.message r.0) r.2 in
        clash (signed r.0) (relisted-changes w p ok z r.0 r.1 h.0) (signed-sees w q r.0 (eqb-true q.kind sign a.0) h.1)

  pub seen_of : meets base s p q ≡ true → Unseen base s p q → ⊥
  unfolding meets
  seen_of e u =
      let a = both (not (malformed q)) _ e in
      let b = both (eqb (refusal base s p) 0) tests a.1 in
      let f : malformed q ≡ false = not-true (malformed q) a.0 in
      let z : refusal base s p ≡ 0 = eqb-true (refusal base s p) 0 b.0 in
      ⊎_elim
      (λ h. seen-heads z f u h)
      (λ h. ⊎_elim (λ g. seen-transactors z f u g) (λ g. seen-lists z f u g) (or-to (not (leaves base s p) and transactors_meet base s p q) (lists_meet base s s' q) h))
      (or-to (heads_meet s p q) _ b.1)

-- ---- the call's answer

module _ (img first second : List ℕ) (r : ℕ) (e : r ≡ independent_refusal base img first second) where
  pub answer-refused : (r ≡ 0 → ⊥) → (r ≡ independent_refusal base img first second) × IndependentAnswer base img first second false
  answer-refused n = (e, IndependentAnswer.refused (λ (z : independent_refusal base img first second ≡ 0). n (e ∙ z)))

  module _ (z : r ≡ 0) where
    pub record Fine : Type 0 where
      pub long : length img ≡ image_bytes base
      pub one : length first ≡ step_bytes
      pub other : length second ≡ step_bytes
      pub formed : well_formed base img ≡ true

    pub fine : Fine
    unfolding independent_refusal
    fine =
        let a = pick-zero (not (eqb (length img) (image_bytes base))) 16 _ (omega arith) (sym e ∙ z) in
        let b = pick-zero (not (eqb (length first) step_bytes) or not (eqb (length second) step_bytes)) 17 _ (omega arith) a.1 in
        let c = pick-zero (not (well_formed base img)) 19 _ (omega arith) b.1 in
        let d = or_off (not (eqb (length first) step_bytes)) (not (eqb (length second) step_bytes)) b.0 in
        record {
          long = eqb-true (length img) (image_bytes base) (not-false _ a.0);
          one = eqb-true (length first) step_bytes (not-false _ d.0);
          other = eqb-true (length second) step_bytes (not-false _ d.1);
          formed = not-false (well_formed base img) c.0;
        }

    module _ (oi : Octets img) where
      pub fine-good : Good img
      fine-good = good-formed img fine.long oi fine.formed

      module _ (of : Octets first) (os : Octets second) (p q : Step) (ep : p ≡ unpack_step (part 0 step_bytes first)) (eq : q ≡ unpack_step (part 0 step_bytes second)) where
        is-first : p ≡ unpack_step first
        is-first = ep ∙ ap unpack_step (part-whole step_bytes first fine.one)

        is-second : q ≡ unpack_step second
        is-second = eq ∙ ap unpack_step (part-whole step_bytes second fine.other)

        pub fine-first : StepOk p
        fine-first = rw is-first (step_ok-unpack first of)

        pub fine-second : StepOk q
        fine-second = rw is-second (step_ok-unpack second os)

        steps : Independent base (unpack base img) (unpack_step first) (unpack_step second) → Independent base (unpack base img) p q
        steps i = rw (is-first, is-second) i

        pub answer-first : true ≡ meets base (unpack base img) p q → (r ≡ independent_refusal base img first second) × IndependentAnswer base img first second false
        answer-first m = (e, IndependentAnswer.dependent (sym e ∙ z) (λ i. seen_of fine-good.well p q fine-first fine-second (sym m) (steps i).forth))

        pub answer-second : false ≡ meets base (unpack base img) p q → (b : Bool) → b ≡ meets base (unpack base img) q p
            → (r ≡ independent_refusal base img first second) × IndependentAnswer base img first second (not b)
        answer-second m true n = (e, IndependentAnswer.dependent (sym e ∙ z) (λ i. seen_of fine-good.well q p fine-second fine-first (sym n) (steps i).back))
        answer-second m false n = (
          e,
          IndependentAnswer.independent (sym e ∙ z) (rw (sym is-first, sym is-second) (record {
            forth = unseen_of fine-good.well p q fine-first fine-second (sym m);
            back = unseen_of fine-good.well q p fine-second fine-first (sym n);
          })),
        )
