-- Two steps of which neither sees what the other changes may change places.
use Prim.Native.Nat.{ℕ, ◌+◌, ◌≤◌, ◌<◌}
use mathlib.Core.Bool.{Bool, true, false}
use mathlib.Core.Path.{◌≡◌, refl, sym, ap, ◌∙◌, subst}
use mathlib.Core.List.{List}
use mathlib.Core.Logic.{◌⊎◌, inl, inr, ⊎_elim}
use mathlib.Core.Option.{Option, none, some}
use native.Mathlib.Omega.{arith}
use lib.Dec.{eqb, leb}
use lib.ListN.{length}
use borrow.Author.Tests.{eqb-true, eqb-false, le-leb, lt-leb, ne_eqb}
use Rattle.octets.specs.Bytes.{pick}
use Rattle.octets.proofs.Chunks.{sides}
use Rattle.octets.proofs.Tests.{never, true-or-false}
use Rattle.marks.specs.Incarnation.{Incarnation}
use Rattle.rules.specs.Layout.{Layout}
use Rattle.rules.specs.State.{Transactor, Message, State, no_transactor, transactor_at, message_at, place_of, numbered}
use Rattle.rules.specs.Step.{Step}
use Rattle.rules.specs.Refusals.{sends, malformed}
use Rattle.rules.specs.Rules.{Result, refusal, answer, step_of}
use Rattle.rules.specs.Exchange.{Exchanged}
use Rattle.rules.specs.Independent.{Cell, whole, there, signed, parcel, room, signed_in, opens, takes_away, Sees, Changes, Unseen, Independent}
use Rattle.rules.proofs.Keep.Step.{refused-same}
use Rattle.rules.proofs.ByKind.Refused.{refusal-malformed}
use Rattle.rules.proofs.Independent.Lists.{overlay, overlay-none, overlay-comm, length-overlay, without, found, absent, found-is, absent-is, found-without, absent-without, without-comm, found-append, absent-append, without-append, length_without}
use Rattle.rules.proofs.Independent.Effects.{Delta, dropping, adding, counted, act, Doing, doing, Kind, kind-of, applied-doing, New, kept, changed, Opens, no-take, one-take, Made, none_made, one-made, Lost, none-lost, one-lost, Within, within}
use Rattle.rules.proofs.Independent.Seen.{Alike, same-refusal, same-doing}

-- a take that a step changes it also sees
pub whole-seen : {y : Layout} {s : State} {p : Step} {t : ℕ} → Changes y s p (whole t) → Sees s p (whole t)
whole-seen (Changes.acting k n) = Sees.acting k
whole-seen (Changes.opening k) = Sees.opening k
whole-seen (Changes.receiving t e w) = Sees.receiving t e w
whole-seen (Changes.naming t e r n) = Sees.naming t e n

-- ---- p after a change that it does not see

-- if one more take is opened, and it is not take t, then t is opened after it exactly if it was before
leb-more : (o t : ℕ) → (t ≡ o → ⊥) → leb (o + 1) t ≡ leb o t
leb-more o t n = ⊎_elim
    (λ (h : t < o). lt-leb (o + 1) t (omega arith) ∙ sym (lt-leb o t h))
    (λ (h : o ≤ t). le-leb (o + 1) t (omega arith) ∙ sym (le-leb o t h))
    (sides t o)

missing-is : (s : State) (n : ℕ) → leb (length s.messages) (place_of s n) ≡ absent n s.messages
unfolding place_of numbered message_at
missing-is s n = absent-is n s.messages

message-is : (s : State) (n : ℕ) → message_at s (place_of s n) ≡ found n s.messages
unfolding place_of numbered message_at
message-is s n = found-is n s.messages

module _ (y : Layout) (s : State) (p q : Step) (unseen : (c : Cell) → Changes y s q c → Sees s p c → ⊥) where
  abbrev ms : List Message
  ms = s.messages

  -- the parcel that p takes away is neither taken away nor made by q
  other-lost : takes_away p.kind ≡ true → takes_away q.kind ≡ true → p.message ≡ q.message → ⊥
  other-lost k j e = unseen (parcel q.message) (Changes.taking j) (subst (λ (n : ℕ). Sees s p (parcel n)) e (Sees.taking k))

  other-made : takes_away p.kind ≡ true → sends q.kind ≡ true → (m : Message) → m.number ≡ s.next → eqb m.number p.message ≡ false
  other-made k j m e = ne_eqb m.number p.message (λ f. unseen (parcel s.next) (Changes.making j) (subst (λ (n : ℕ). Sees s p (parcel n)) (sym f ∙ e) (Sees.taking k)))

  takes_same : (f : ℕ → Option Transactor) (t : ℕ) → Sees s p (whole t) → {o : Option Transactor} → f t ≡ o → New y s q t o → transactor_at (record { limits = s.limits; opened = s.opened; next = s.next; transactors = overlay f s.transactors; messages = s.messages }) t ≡ transactor_at s t
  unfolding transactor_at
  takes_same f t v e kept = overlay-none f s.transactors t no_transactor e
  takes_same f t v e (changed c) = absurd (unseen (whole t) c v)

  opened-same : (t : ℕ) → Sees s p (whole t) → {b : Bool} → Opens q b → leb (pick b (s.opened + 1) s.opened) t ≡ leb s.opened t
  opened-same t v no-take = refl
  opened-same t v (one-take k) = leb-more s.opened t (λ e. unseen (whole s.opened) (Changes.opening k) (subst (λ (u : ℕ). Sees s p (whole u)) e v))

  there-same : (t : ℕ) → Sees s p (there t) → {b : Bool} → Opens q b → leb (pick b (s.opened + 1) s.opened) t ≡ leb s.opened t
  there-same t v no-take = refl
  there-same t v (one-take k) = leb-more s.opened t (λ e. unseen (there s.opened) (Changes.opened k) (subst (λ (u : ℕ). Sees s p (there u)) e v))

  count_same : opens p.kind ≡ true → {b : Bool} → Opens q b → pick b (s.opened + 1) s.opened ≡ s.opened
  count_same h no-take = refl
  count_same h (one-take k) = absurd (unseen (whole s.opened) (Changes.opening k) (Sees.opening h))

  next-same : sends p.kind ≡ true → {m : Option Message} → Made s q m → counted m s.next ≡ s.next
  next-same h none_made = refl
  next-same h (one-made k e) = absurd (unseen (parcel s.next) (Changes.making k) (Sees.making h))

  places_same : sends p.kind ≡ true → {m : Option Message} {l : Option ℕ} → Made s q m → Lost s q l
      → leb s.limits.messages (length (adding m (dropping l ms))) ≡ leb s.limits.messages (length ms)
  places_same h (one-made k e) l = absurd (unseen (parcel s.next) (Changes.making k) (Sees.making h))
  places_same h none_made none-lost = refl
  places_same h none_made (one-lost k a) =
      let shorter : length (without q.message ms) + 1 ≡ length ms = length_without q.message ms a in
      ⊎_elim
      (λ (i : length ms < s.limits.messages). lt-leb s.limits.messages (length (without q.message ms)) (omega arith) ∙ sym (lt-leb s.limits.messages (length ms) i))
      (λ (i : s.limits.messages ≤ length ms). absurd (unseen room (Changes.freeing k i) (Sees.placing h)))
      (sides (length ms) s.limits.messages)

  absent-same : takes_away p.kind ≡ true → {m : Option Message} {l : Option ℕ} → Made s q m → Lost s q l → absent p.message (adding m (dropping l ms)) ≡ absent p.message ms
  absent-same h none_made none-lost = refl
  absent-same h none_made (one-lost k a) = absent-without p.message q.message (other-lost h k) ms
  absent-same h (one-made {m} j e) none-lost = absent-append p.message m (other-made h j m e) ms
  absent-same h (one-made {m} j e) (one-lost k a) = absent-append p.message m (other-made h j m e) (without q.message ms) ∙ absent-without p.message q.message (other-lost h k) ms

  found-same : takes_away p.kind ≡ true → {m : Option Message} {l : Option ℕ} → Made s q m → Lost s q l → found p.message (adding m (dropping l ms)) ≡ found p.message ms
  found-same h none_made none-lost = refl
  found-same h none_made (one-lost k a) = found-without p.message q.message (other-lost h k) ms
  found-same h (one-made {m} j e) none-lost = found-append p.message m (other-made h j m e) ms
  found-same h (one-made {m} j e) (one-lost k a) = found-append p.message m (other-made h j m e) (without q.message ms) ∙ found-without p.message q.message (other-lost h k) ms

  lives-same : (u : ℕ) → Sees s p (signed u) → (a : Incarnation) → signed_in (step_of y s q).state u a ≡ signed_in s u a
  lives-same u v a = go (signed_in (step_of y s q).state u a) (signed_in s u a) refl refl
    where
      go : (c d : Bool) → signed_in (step_of y s q).state u a ≡ c → signed_in s u a ≡ d → signed_in (step_of y s q).state u a ≡ signed_in s u a
      go true true e f = e ∙ sym f
      go true false e f = absurd (unseen (signed u) (Changes.signing u a (λ g. never (sym e ∙ g ∙ f))) v)
      go false true e f = absurd (unseen (signed u) (Changes.signing u a (λ g. never (sym f ∙ sym g ∙ e))) v)
      go false false e f = e ∙ sym f

  alike : (d : Delta) → Within y s q d → (step_of y s q).state ≡ act d s → Alike s (act d s) p
  unfolding act transactor_at
  alike d w after = record {
    lives = λ u v a. subst (λ (x : State). signed_in x u a ≡ signed_in s u a) after (lives-same u v a);
    limits = refl;
    takes = λ t v. takes_same d.takes t v refl (w.takes t);
    opened = λ t v. opened-same t v w.opens;
    addressed = λ t v. there-same t v w.opens;
    count = λ h. count_same h w.opens;
    next = λ h. next-same h w.made;
    places = λ h. places_same h w.made w.lost;
    missing = λ h. missing-is (act d s) p.message ∙ absent-same h w.made w.lost ∙ sym (missing-is s p.message);
    message = λ h. message-is (act d s) p.message ∙ found-same h w.made w.lost ∙ sym (message-is s p.message);
  }

-- ---- both changes

module _ (y : Layout) (s : State) (p q : Step) (forth : (c : Cell) → Changes y s p c → Sees s q c → ⊥) (back : (c : Cell) → Changes y s q c → Sees s p c → ⊥) where
  not-both : (f g : ℕ → Option Transactor) (t : ℕ) {a b : Option Transactor} → f t ≡ a → g t ≡ b → New y s p t a → New y s q t b → (g t ≡ none) ⊎ (f t ≡ none)
  not-both f g t e i kept n = inr e
  not-both f g t e i (changed c) kept = inl i
  not-both f g t e i (changed c) (changed c') = absurd (forth (whole t) c (whole-seen c'))

  lost-both : (l : List Message) {a b : Option ℕ} → Lost s p a → Lost s q b → dropping b (dropping a l) ≡ dropping a (dropping b l)
  lost-both l none-lost b = refl
  lost-both l (one-lost k x) none-lost = refl
  lost-both l (one-lost k x) (one-lost j z) = without-comm q.message p.message (λ e. other-lost y s p q back k j (sym e)) l

  parcels-both : (l : List Message) {a b : Option ℕ} {m n : Option Message} → Lost s p a → Lost s q b → Made s p m → Made s q n
      → adding n (dropping b (adding m (dropping a l))) ≡ adding m (dropping a (adding n (dropping b l)))
  parcels-both l a b none_made none_made = lost-both l a b
  parcels-both l a none-lost (one-made j e) none_made = refl
  parcels-both l {a} u (one-lost k x) (one-made {m} j e) none_made =
      without-append q.message m (other-made y s q p forth k j m e) (dropping a l) ∙ ap (adding (some m)) (lost-both l u (one-lost k x))
  parcels-both l none-lost b none_made (one-made j e) = refl
  parcels-both l {b} (one-lost k x) u none_made (one-made {m} j e) =
      ap (adding (some m)) (lost-both l (one-lost k x) u) ∙ sym (without-append p.message m (other-made y s p q back k j m e) (dropping b l))
  parcels-both l a b (one-made j e) (one-made k f) = absurd (forth (parcel s.next) (Changes.making j) (Sees.making k))

  opened_both : (o : ℕ) (a b : Bool) → pick b (pick a (o + 1) o + 1) (pick a (o + 1) o) ≡ pick a (pick b (o + 1) o + 1) (pick b (o + 1) o)
  opened_both o true true = refl
  opened_both o true false = refl
  opened_both o false true = refl
  opened_both o false false = refl

  next_both : (o : ℕ) (a b : Option Message) → counted b (counted a o) ≡ counted a (counted b o)
  next_both o none b = refl
  next_both o (some m) none = refl
  next_both o (some m) (some n) = refl

  act-comm : (d e : Delta) → Within y s p d → Within y s q e → act e (act d s) ≡ act d (act e s)
  unfolding act
  act-comm d e v w =
      let o : pick e.opens (pick d.opens (s.opened + 1) s.opened + 1) (pick d.opens (s.opened + 1) s.opened) ≡ pick d.opens (pick e.opens (s.opened + 1) s.opened + 1) (pick e.opens (s.opened + 1) s.opened) = opened_both s.opened d.opens e.opens in
      let n : counted e.made (counted d.made s.next) ≡ counted d.made (counted e.made s.next) = next_both s.next d.made e.made in
      let t : overlay e.takes (overlay d.takes s.transactors) ≡ overlay d.takes (overlay e.takes s.transactors) = overlay-comm e.takes d.takes s.transactors (λ t. not-both d.takes e.takes t refl refl (v.takes t) (w.takes t)) in
      let m : adding e.made (dropping e.lost (adding d.made (dropping d.lost s.messages))) ≡ adding d.made (dropping d.lost (adding e.made (dropping e.lost s.messages))) = parcels-both s.messages v.lost w.lost v.made w.made in
      λ i. record { limits = s.limits; opened = o i; next = n i; transactors = t i; messages = m i }

-- ---- the steps

-- the state has all takes of its layout
abbrev pub Full : Layout → State → Type 0
Full y s = length s.transactors ≡ y.transactors

pub formed-accepted : (y : Layout) (s : State) (p : Step) → refusal y s p ≡ 0 → malformed p ≡ false
formed-accepted y s p z = ⊎_elim (λ (e : malformed p ≡ true). absurd (twenty (sym z ∙ refusal-malformed y s p e))) (λ (e : malformed p ≡ false). e) (true-or-false (malformed p))
  where
    twenty : ◌≡◌ {A = ℕ} 0 20 → ⊥
    twenty e = omega arith

-- a step is refused, or it is not
pub decided : (y : Layout) (s : State) (p : Step) → (refusal y s p ≡ 0) ⊎ (refusal y s p ≡ 0 → ⊥)
decided y s p = ⊎_elim (λ e. inl (eqb-true (refusal y s p) 0 e)) (λ e. inr (eqb-false (refusal y s p) 0 e)) (true-or-false (eqb (refusal y s p) 0))

module _ (y : Layout) (s : State) (p : Step) (full : Full y s) where
  pub accepted-state : (k : Kind p) → refusal y s p ≡ 0 → (step_of y s p).state ≡ act (doing y s p k).delta s
  accepted-state k z = ap (λ (r : Result). r.state) (applied-doing y s p k full z)

  accepted-reply : (k : Kind p) → refusal y s p ≡ 0 → (step_of y s p).reply ≡ (doing y s p k).reply
  accepted-reply k z = ap (λ (r : Result). r.reply) (applied-doing y s p k full z)

  pub refused-state : (refusal y s p ≡ 0 → ⊥) → (step_of y s p).state ≡ s
  refused-state n = ap (λ (r : Result). r.state) (refused-same y s p n)

  refused-reply : (refusal y s p ≡ 0 → ⊥) → (step_of y s p).reply ≡ answer (refusal y s p) 0 0 0
  refused-reply n = ap (λ (r : Result). r.reply) (refused-same y s p n)

  pub full-after : Full y (step_of y s p).state
  unfolding act
  full-after = ⊎_elim
      (λ (z : refusal y s p ≡ 0).
      let k : Kind p = kind-of p (formed-accepted y s p z) in
      ap (λ (x : State). length x.transactors) (accepted-state k z) ∙ length-overlay (doing y s p k).delta.takes s.transactors ∙ full)
      (λ (n : refusal y s p ≡ 0 → ⊥). ap (λ (x : State). length x.transactors) (refused-state n) ∙ full)
      (decided y s p)

-- p is answered in s' as in s, and does the same
record Undisturbed (y : Layout) (s s' : State) (p : Step) (k : Kind p) : Type 0 where
  refuses : refusal y s' p ≡ refusal y s p
  does : refusal y s p ≡ 0 → doing y s' p k ≡ doing y s p k

module _ (y : Layout) (s : State) (p q : Step) (full : Full y s) (formed : malformed p ≡ false) (k : Kind p) (u : Unseen y s q p) where
  undisturbed : Undisturbed y s (step_of y s q).state p k
  undisturbed = ⊎_elim
      (λ (z : refusal y s q ≡ 0).
      let j : malformed q ≡ false = formed-accepted y s q z in
      let d : Delta = (doing y s q (kind-of q j)).delta in
      let a : Alike s (act d s) p = alike y s p q (u.by z formed) d (within y s q j z (kind-of q j)) (accepted-state y s q full (kind-of q j) z) in
      subst (λ (x : State). Undisturbed y s x p k) (sym (accepted-state y s q full (kind-of q j) z))
      (record { refuses = same-refusal y s (act d s) p formed a k; does = same-doing y s (act d s) p formed a k }))
      (λ (n : refusal y s q ≡ 0 → ⊥). subst (λ (x : State). Undisturbed y s x p k) (sym (refused-state y s q full n)) (record { refuses = refl; does = λ z. refl }))
      (decided y s q)

  undisturbed-reply : (step_of y (step_of y s q).state p).reply ≡ (step_of y s p).reply
  undisturbed-reply = ⊎_elim
      (λ (z : refusal y s p ≡ 0).
      accepted-reply y (step_of y s q).state p (full-after y s q full) k (undisturbed.refuses ∙ z)
      ∙ ap (λ (d : Doing). d.reply) (undisturbed.does z)
      ∙ sym (accepted-reply y s p full k z))
      (λ (n : refusal y s p ≡ 0 → ⊥).
      refused-reply y (step_of y s q).state p (full-after y s q full) (λ (z : refusal y (step_of y s q).state p ≡ 0). n (sym undisturbed.refuses ∙ z))
      ∙ ap (λ (r : ℕ). answer r 0 0 0) undisturbed.refuses
      ∙ sym (refused-reply y s p full n))
      (decided y s p)

  -- p, which is refused before q, is refused after it too and changes nothing
  undisturbed-refused : (refusal y s p ≡ 0 → ⊥) → (step_of y (step_of y s q).state p).state ≡ (step_of y s q).state
  undisturbed-refused n = refused-state y (step_of y s q).state p (full-after y s q full) (λ (z : refusal y (step_of y s q).state p ≡ 0). n (sym undisturbed.refuses ∙ z))

  undisturbed-state : refusal y s p ≡ 0 → (step_of y (step_of y s q).state p).state ≡ act (doing y s p k).delta (step_of y s q).state
  undisturbed-state z =
      accepted-state y (step_of y s q).state p (full-after y s q full) k (undisturbed.refuses ∙ z)
      ∙ ap (λ (d : Doing). act d.delta (step_of y s q).state) (undisturbed.does z)

module _ (y : Layout) (s : State) (p q : Step) (full : Full y s) where
  -- a malformed step is refused wherever it stands
  malformed-exchanged : malformed p ≡ true → Exchanged y s p q
  malformed-exchanged e =
      let n : (x : State) → refusal y x p ≡ 0 → ⊥ = λ x z. twenty (sym z ∙ refusal-malformed y x p e) in
      let same : (x : State) → (step_of y x p).state ≡ x = λ x. ap (λ (r : Result). r.state) (refused-same y x p (n x)) in
      let reply : (x : State) → (step_of y x p).reply ≡ answer 20 0 0 0 = λ x. ap (λ (r : Result). r.reply) (refused-same y x p (n x)) ∙ ap (λ (r : ℕ). answer r 0 0 0) (refusal-malformed y x p e) in
      record {
        state = ap (λ (x : State). (step_of y x q).state) (same s) ∙ sym (same (step_of y s q).state);
        first = reply s ∙ sym (reply (step_of y s q).state);
        second = ap (λ (x : State). (step_of y x q).reply) (same s);
      }
    where
      twenty : ◌≡◌ {A = ℕ} 0 20 → ⊥
      twenty e = omega arith

  module _ (i : Independent y s p q) (fp : malformed p ≡ false) (fq : malformed q ≡ false) where
    abbrev kp : Kind p
    kp = kind-of p fp

    abbrev kq : Kind q
    kq = kind-of q fq

    both-state : (step_of y (step_of y s p).state q).state ≡ (step_of y (step_of y s q).state p).state
    both-state = go (decided y s p) (decided y s q)
      where
        go : (refusal y s p ≡ 0) ⊎ (refusal y s p ≡ 0 → ⊥) → (refusal y s q ≡ 0) ⊎ (refusal y s q ≡ 0 → ⊥) → (step_of y (step_of y s p).state q).state ≡ (step_of y (step_of y s q).state p).state
        go (inr n) w = ap (λ (x : State). (step_of y x q).state) (refused-state y s p full n) ∙ sym (undisturbed-refused y s p q full fp kp i.back n)
        go (inl z) (inr n) = undisturbed-refused y s q p full fq kq i.forth n ∙ sym (ap (λ (x : State). (step_of y x p).state) (refused-state y s q full n))
        go (inl z) (inl w) =
            undisturbed-state y s q p full fq kq i.forth w
            ∙ ap (act (doing y s q kq).delta) (accepted-state y s p full kp z)
            ∙ act-comm y s p q (i.forth.by z fq) (i.back.by w fp) (doing y s p kp).delta (doing y s q kq).delta (within y s p fp z kp) (within y s q fq w kq)
            ∙ sym (ap (act (doing y s p kp).delta) (accepted-state y s q full kq w))
            ∙ sym (undisturbed-state y s p q full fp kp i.back z)

    formed-exchanged : Exchanged y s p q
    formed-exchanged = record {
      state = both-state;
      first = sym (undisturbed-reply y s p q full fp kp i.back);
      second = undisturbed-reply y s q p full fq kq i.forth;
    }

turned-exchanged : {y : Layout} {s : State} {p q : Step} → Exchanged y s q p → Exchanged y s p q
turned-exchanged x = record { state = sym x.state; first = sym x.second; second = sym x.first }

-- both orders leave the same state, and each step has the same reply
pub independent-exchanged : (y : Layout) (s : State) (p q : Step) → length s.transactors ≡ y.transactors → Independent y s p q → Exchanged y s p q
independent-exchanged y s p q full i = go (true-or-false (malformed p)) (true-or-false (malformed q))
  where
    go : (malformed p ≡ true) ⊎ (malformed p ≡ false) → (malformed q ≡ true) ⊎ (malformed q ≡ false) → Exchanged y s p q
    go (inl e) w = malformed-exchanged y s p q full e
    go (inr f) (inl e) = turned-exchanged (malformed-exchanged y s q p full e)
    go (inr f) (inr g) = formed-exchanged y s p q full i f g
