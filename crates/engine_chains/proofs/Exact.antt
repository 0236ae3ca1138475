-- Going back over steps: the lives of the places followed after a step are those of the places to look at before it, and those met.
use Prim.Native.Nat.{ℕ}
use mathlib.Core.Bool.{Bool, true, false, true≢false, false≢true}
use mathlib.Core.Path.{◌≡◌, refl, sym, ◌∙◌, subst}
use mathlib.Core.List.Memᴰ
use mathlib.Core.List.{List, [], ◌∷◌, ◌++◌}
use mathlib.Core.Logic.{⊎_elim, ◌⊎◌, inl, inr, ◌↔◌, ◌≢◌}
use Rattle.octets.specs.Bytes.{pick, ◌or◌}
use Rattle.marks.specs.Incarnation.{Incarnation, initial_incarnation}
use Rattle.octets.specs.Table.{updated}
use Rattle.octets.proofs.Tables.{updated-view, updated-same, updated-other}
use Rattle.session.specs.Provenance.{Incarnations, In, one}
use Rattle.engine_chains.specs.Chain.{Places, Event, nothing, cleared, sent, taken, opens, reads, writes, finishes, renewed, annihilated, successive, back}
use Rattle.engine_chains.specs.Internal.Sets.{Sets, no_sets, Reached, by_state, by-creation, by-behaviour, by-message, change, Met, sender, opener, child, child-known, anew, in-later, in-earlier, Traced, here, further, sets_after}
use Rattle.octets.proofs.Tests.{pick-view, or-to, or-of}
use Rattle.session.proofs.Sets.{in_one}

-- ---- places as tables of tests

kept : (f : ℕ → Bool) (t k : ℕ) (c : Bool) → t ≢ k → f k ≡ true → updated f t c k ≡ true
kept f t k c d q = updated-other f t c k d ∙ q

put-here : (f : ℕ → Bool) (t : ℕ) (c : Bool) → c ≡ true → updated f t c t ≡ true
put-here f t c q = updated-same f t c ∙ q

joined : (f : ℕ → Bool) (t : ℕ) (c : Bool) (k : ℕ) → f k ≡ true → updated f t (f t or c) k ≡ true
joined f t c = updated-view (λ k z. f k ≡ true → z ≡ true) f t (f t or c) (λ q. or-of (f t) c (inl q)) (λ k d q. q)

joined-here : (f : ℕ → Bool) (t : ℕ) (c : Bool) → c ≡ true → updated f t (f t or c) t ≡ true
joined-here f t c q = put-here f t (f t or c) (or-of (f t) c (inr q))

put-cases : (f : ℕ → Bool) (t : ℕ) (c : Bool) (k : ℕ) → updated f t c k ≡ true → ((k ≡ t) × (c ≡ true)) ⊎ ((t ≢ k) × (f k ≡ true))
put-cases f t c = updated-view (λ k z. z ≡ true → ((k ≡ t) × (c ≡ true)) ⊎ ((t ≢ k) × (f k ≡ true))) f t c (λ q. inl (refl, q)) (λ k d q. inr (d, q))

dropped : (f : ℕ → Bool) (t k : ℕ) → updated f t false k ≡ true → (t ≢ k) × (f k ≡ true)
dropped f t k q = ⊎_elim (λ z. absurd (false≢true z.1)) (λ z. z) (put-cases f t false k q)

joined-cases : (f : ℕ → Bool) (t : ℕ) (c : Bool) (k : ℕ) → updated f t (f t or c) k ≡ true → (f k ≡ true) ⊎ ((k ≡ t) × (c ≡ true))
joined-cases f t c = updated-view (λ k z. z ≡ true → (f k ≡ true) ⊎ ((k ≡ t) × (c ≡ true))) f t (f t or c)
    (λ q. ⊎_elim (λ z. inl z) (λ z. inr (refl, z)) (or-to (f t) c q)) (λ k d q. inl q)

unnamed : (v q : Bool) → v ≡ false → q ≡ true → pick v false q ≡ true
unnamed v q e f = rw e f

picked : (v q : Bool) → pick v false q ≡ true → (v ≡ false) × (q ≡ true)
picked true q e = absurd (false≢true e)
picked false q e = (refl, e)

-- ---- one step

module _ (u : ℕ) (a : Incarnation) where
  abbrev Goal : Event → Sets → Places → Type 0
  Goal e S Q = Reached S (back e Q) u a ⊎ Met e Q u a

  two : {P : Type 0} (X Y : Incarnations) → (In u a X → P) → (In u a Y → P) → In u a (X ++ Y) → P
  two X Y f g i = ⊎_elim f g (Memᴰ.append_cases X i)

  three : {P : Type 0} (X Y : Incarnations) (t : ℕ) (c : Incarnation) → (In u a X → P) → (In u a Y → P) → (u ≡ t → a ≡ c → P) → In u a (X ++ Y ++ one t c) → P
  three X Y t c f g h i = two (X ++ Y) (one t c) (two X Y f g) (λ z. h (in_one z).0 (in_one z).1) i

  at : (F : ℕ → Incarnations) {k t : ℕ} → k ≡ t → In u a (F k) → In u a (F t)
  at F e i = subst (λ z. In u a (F z)) e i

  grown : (F : ℕ → Incarnations) (t : ℕ) (X : Incarnations) (k : ℕ) → In u a (F k) → In u a (updated F t (X ++ F t) k)
  grown F t X = updated-view (λ k z. In u a (F k) → In u a z) F t (X ++ F t) (λ i. Memᴰ.append_right X i) (λ k d i. i)

  opened-behaviour : (t o : ℕ) (c : Incarnation) (S : Sets) (Q : Places) (k : ℕ) → updated Q.behaviour o false k ≡ true
      → In u a (updated S.behaviour t (one o initial_incarnation ++ S.behaviour t) k) → Goal (opens t o c) S Q
  unfolding back
  opened-behaviour t o c S Q = updated-view (λ k z. updated Q.behaviour o false k ≡ true → In u a z → Goal (opens t o c) S Q) S.behaviour t (one o initial_incarnation ++ S.behaviour t)
      (λ q. two (one o initial_incarnation) (S.behaviour t) (λ i. inr (rw ((in_one i).0, (in_one i).1) (child-known q))) (λ i. inl (by-behaviour t (joined (updated Q.behaviour o false) t (Q.creation o) t q) i)))
      (λ k d q i. inl (by-behaviour k (joined (updated Q.behaviour o false) t (Q.creation o) k q) i))

  to : (e : Event) (S : Sets) (Q : Places) → Reached (change e S) Q u a → Goal e S Q
  unfolding change back
  to nothing S Q r = inl r
  to (cleared n) S Q (by_state k q i) = inl (by_state k q i)
  to (cleared n) S Q (by-creation k q i) = inl (by-creation k q i)
  to (cleared n) S Q (by-behaviour k q i) = inl (by-behaviour k q i)
  to (cleared n) S Q (by-message k q i) = updated-view (λ k z. Q.message k ≡ true → In u a z → Goal (cleared n) S Q) S.message n [] (λ q i. absurd (Memᴰ.not-nil i)) (λ k d q i. inl (by-message k (kept Q.message n k false d q) i)) k q i
  to (sent n t c) S Q (by_state k q i) = inl (by_state k q i)
  to (sent n t c) S Q (by-creation k q i) = inl (by-creation k (joined Q.creation t (Q.message n) k q) i)
  to (sent n t c) S Q (by-behaviour k q i) = inl (by-behaviour k (joined Q.behaviour t (Q.message n) k q) i)
  to (sent n t c) S Q (by-message k q i) = updated-view (λ k z. Q.message k ≡ true → In u a z → Goal (sent n t c) S Q) S.message n _
      (λ q. three (S.creation t) (S.behaviour t) t c (λ i. inl (by-creation t (joined-here Q.creation t (Q.message n) q) i)) (λ i. inl (by-behaviour t (joined-here Q.behaviour t (Q.message n) q) i)) (λ x y. inr (rw (x, y) (sender q))))
      (λ k d q i. inl (by-message k (kept Q.message n k false d q) i)) k q i
  to (taken n t) S Q (by_state k q i) = inl (by_state k q i)
  to (taken n t) S Q (by-creation k q i) = inl (by-creation k q i)
  to (taken n t) S Q (by-behaviour k q i) = updated-view (λ k z. Q.behaviour k ≡ true → In u a z → Goal (taken n t) S Q) S.behaviour t _
      (λ q i. inl (by-message n (put-here Q.message n (Q.behaviour t) q) i)) (λ k d q i. inl (by-behaviour k (kept Q.behaviour t k false d q) i)) k q i
  to (taken n t) S Q (by-message k q i) = updated-view (λ k z. Q.message k ≡ true → In u a z → Goal (taken n t) S Q) S.message n [] (λ q i. absurd (Memᴰ.not-nil i)) (λ k d q i. inl (by-message k (kept Q.message n k (Q.behaviour t) d q) i)) k q i
  to (opens t o c) S Q (by_state k q i) = updated-view (λ k z. Q.state k ≡ true → In u a z → Goal (opens t o c) S Q) S.state o (one o initial_incarnation)
      (λ q i. inr (rw ((in_one i).0, (in_one i).1) (child q))) (λ k d q i. inl (by_state k (kept Q.state o k false d q) i)) k q i
  to (opens t o c) S Q (by-creation k q i) = updated-view (λ k z. Q.creation k ≡ true → In u a z → Goal (opens t o c) S Q) S.creation o _
      (λ q. three (S.creation t) (S.behaviour t) t c (λ i. inl (by-creation t (joined-here (updated Q.creation o false) t (Q.creation o) q) i)) (λ i. inl (by-behaviour t (joined-here (updated Q.behaviour o false) t (Q.creation o) q) i)) (λ x y. inr (rw (x, y) (opener q))))
      (λ k d q i. inl (by-creation k (joined (updated Q.creation o false) t (Q.creation o) k (kept Q.creation o k false d q)) i)) k q i
  to (opens t o c) S Q (by-behaviour k q i) = updated-view (λ k z. Q.behaviour k ≡ true → In u a z → Goal (opens t o c) S Q) (updated S.behaviour t (one o initial_incarnation ++ S.behaviour t)) o []
      (λ q i. absurd (Memᴰ.not-nil i)) (λ k d q i. opened-behaviour t o c S Q k (kept Q.behaviour o k false d q) i) k q i
  to (opens t o c) S Q (by-message k q i) = inl (by-message k q i)
  to (reads t) S Q (by_state k q i) = inl (by_state k (joined Q.state t (Q.behaviour t) k q) i)
  to (reads t) S Q (by-creation k q i) = inl (by-creation k q i)
  to (reads t) S Q (by-behaviour k q i) = updated-view (λ k z. Q.behaviour k ≡ true → In u a z → Goal (reads t) S Q) S.behaviour t _
      (λ q. two (S.state t) (S.behaviour t) (λ i. inl (by_state t (joined-here Q.state t (Q.behaviour t) q) i)) (λ i. inl (by-behaviour t q i))) (λ k d q i. inl (by-behaviour k q i)) k q i
  to (reads t) S Q (by-message k q i) = inl (by-message k q i)
  to (writes t) S Q (by_state k q i) = updated-view (λ k z. Q.state k ≡ true → In u a z → Goal (writes t) S Q) S.state t _
      (λ q. two (S.behaviour t) (S.state t) (λ i. inl (by-behaviour t (joined-here Q.behaviour t (Q.state t) q) i)) (λ i. inl (by_state t q i))) (λ k d q i. inl (by_state k q i)) k q i
  to (writes t) S Q (by-creation k q i) = inl (by-creation k q i)
  to (writes t) S Q (by-behaviour k q i) = inl (by-behaviour k (joined Q.behaviour t (Q.state t) k q) i)
  to (writes t) S Q (by-message k q i) = inl (by-message k q i)
  to (finishes t) S Q (by_state k q i) = inl (by_state k q i)
  to (finishes t) S Q (by-creation k q i) = inl (by-creation k q i)
  to (finishes t) S Q (by-behaviour k q i) = updated-view (λ k z. Q.behaviour k ≡ true → In u a z → Goal (finishes t) S Q) S.behaviour t [] (λ q i. absurd (Memᴰ.not-nil i)) (λ k d q i. inl (by-behaviour k (kept Q.behaviour t k false d q) i)) k q i
  to (finishes t) S Q (by-message k q i) = inl (by-message k q i)
  to (renewed v c) S Q (by_state k q i) = pick-view (λ z. In u a z → Goal (renewed v c) S Q) (v k) (one k (c k)) (S.state k) (λ e i. inr (rw ((in_one i).0, (in_one i).1) (anew e q))) (λ e i. inl (by_state k (unnamed (v k) (Q.state k) e q) i)) i
  to (renewed v c) S Q (by-creation k q i) = pick-view (λ z. In u a z → Goal (renewed v c) S Q) (v k) [] (S.creation k) (λ e i. absurd (Memᴰ.not-nil i)) (λ e i. inl (by-creation k (unnamed (v k) (Q.creation k) e q) i)) i
  to (renewed v c) S Q (by-behaviour k q i) = pick-view (λ z. In u a z → Goal (renewed v c) S Q) (v k) [] (S.behaviour k) (λ e i. absurd (Memᴰ.not-nil i)) (λ e i. inl (by-behaviour k (unnamed (v k) (Q.behaviour k) e q) i)) i
  to (renewed v c) S Q (by-message k q i) = inl (by-message k q i)
  to (annihilated t) S Q (by_state k q i) = updated-view (λ k z. Q.state k ≡ true → In u a z → Goal (annihilated t) S Q) S.state t [] (λ q i. absurd (Memᴰ.not-nil i)) (λ k d q i. inl (by_state k (kept Q.state t k false d q) i)) k q i
  to (annihilated t) S Q (by-creation k q i) = updated-view (λ k z. Q.creation k ≡ true → In u a z → Goal (annihilated t) S Q) S.creation t [] (λ q i. absurd (Memᴰ.not-nil i)) (λ k d q i. inl (by-creation k (kept Q.creation t k false d q) i)) k q i
  to (annihilated t) S Q (by-behaviour k q i) = updated-view (λ k z. Q.behaviour k ≡ true → In u a z → Goal (annihilated t) S Q) S.behaviour t [] (λ q i. absurd (Memᴰ.not-nil i)) (λ k d q i. inl (by-behaviour k (kept Q.behaviour t k false d q) i)) k q i
  to (annihilated t) S Q (by-message k q i) = inl (by-message k q i)
  to (successive e f) S Q r = ⊎_elim (λ x. ⊎_elim (λ y. inl y) (λ y. inr (in-earlier y)) (to e S (back f Q) x)) (λ x. inr (in-later x)) (to f (change e S) Q r)

  of : (e : Event) (S : Sets) (Q : Places) → Reached S (back e Q) u a → Reached (change e S) Q u a
  unfolding change back
  of nothing S Q r = r
  of (cleared n) S Q (by_state k q i) = by_state k q i
  of (cleared n) S Q (by-creation k q i) = by-creation k q i
  of (cleared n) S Q (by-behaviour k q i) = by-behaviour k q i
  of (cleared n) S Q (by-message k q i) = let z = dropped Q.message n k q in by-message k z.1 (rw (updated-other S.message n [] k z.0) i)
  of (sent n t c) S Q (by_state k q i) = by_state k q i
  of (sent n t c) S Q (by-creation k q i) = ⊎_elim (λ z. by-creation k z i) (λ z. by-message n z.1 (rw (updated-same S.message n (S.creation t ++ S.behaviour t ++ one t c))
      (Memᴰ.append_left (one t c) (Memᴰ.append_left (S.behaviour t) (at S.creation z.0 i))))) (joined-cases Q.creation t (Q.message n) k q)
  of (sent n t c) S Q (by-behaviour k q i) = ⊎_elim (λ z. by-behaviour k z i) (λ z. by-message n z.1 (rw (updated-same S.message n (S.creation t ++ S.behaviour t ++ one t c))
      (Memᴰ.append_left (one t c) (Memᴰ.append_right (S.creation t) (at S.behaviour z.0 i))))) (joined-cases Q.behaviour t (Q.message n) k q)
  of (sent n t c) S Q (by-message k q i) = let z = dropped Q.message n k q in by-message k z.1 (rw (updated-other S.message n (S.creation t ++ S.behaviour t ++ one t c) k z.0) i)
  of (taken n t) S Q (by_state k q i) = by_state k q i
  of (taken n t) S Q (by-creation k q i) = by-creation k q i
  of (taken n t) S Q (by-behaviour k q i) = let z = dropped Q.behaviour t k q in by-behaviour k z.1 (rw (updated-other S.behaviour t (S.message n) k z.0) i)
  of (taken n t) S Q (by-message k q i) = ⊎_elim (λ z. by-behaviour t z.1 (rw (updated-same S.behaviour t (S.message n)) (at S.message z.0 i)))
      (λ z. by-message k z.1 (rw (updated-other S.message n [] k z.0) i)) (put-cases Q.message n (Q.behaviour t) k q)
  of (opens t o c) S Q (by_state k q i) = let z = dropped Q.state o k q in by_state k z.1 (rw (updated-other S.state o (one o initial_incarnation) k z.0) i)
  of (opens t o c) S Q (by-creation k q i) = ⊎_elim (λ j. let z = dropped Q.creation o k j in by-creation k z.1 (rw (updated-other S.creation o (S.creation t ++ S.behaviour t ++ one t c) k z.0) i))
      (λ z. by-creation o z.1 (rw (updated-same S.creation o (S.creation t ++ S.behaviour t ++ one t c)) (Memᴰ.append_left (one t c) (Memᴰ.append_left (S.behaviour t) (at S.creation z.0 i)))))
      (joined-cases (updated Q.creation o false) t (Q.creation o) k q)
  of (opens t o c) S Q (by-behaviour k q i) = ⊎_elim (λ j. let z = dropped Q.behaviour o k j in by-behaviour k z.1 (rw (updated-other (updated S.behaviour t (one o initial_incarnation ++ S.behaviour t)) o [] k z.0) (grown S.behaviour t (one o initial_incarnation) k i)))
      (λ z. by-creation o z.1 (rw (updated-same S.creation o (S.creation t ++ S.behaviour t ++ one t c)) (Memᴰ.append_left (one t c) (Memᴰ.append_right (S.creation t) (at S.behaviour z.0 i)))))
      (joined-cases (updated Q.behaviour o false) t (Q.creation o) k q)
  of (opens t o c) S Q (by-message k q i) = by-message k q i
  of (reads t) S Q (by_state k q i) = ⊎_elim (λ z. by_state k z i) (λ z. by-behaviour t z.1 (rw (updated-same S.behaviour t (S.state t ++ S.behaviour t)) (Memᴰ.append_left (S.behaviour t) (at S.state z.0 i))))
      (joined-cases Q.state t (Q.behaviour t) k q)
  of (reads t) S Q (by-creation k q i) = by-creation k q i
  of (reads t) S Q (by-behaviour k q i) = by-behaviour k q (grown S.behaviour t (S.state t) k i)
  of (reads t) S Q (by-message k q i) = by-message k q i
  of (writes t) S Q (by_state k q i) = by_state k q (grown S.state t (S.behaviour t) k i)
  of (writes t) S Q (by-creation k q i) = by-creation k q i
  of (writes t) S Q (by-behaviour k q i) = ⊎_elim (λ z. by-behaviour k z i) (λ z. by_state t z.1 (rw (updated-same S.state t (S.behaviour t ++ S.state t)) (Memᴰ.append_left (S.state t) (at S.behaviour z.0 i))))
      (joined-cases Q.behaviour t (Q.state t) k q)
  of (writes t) S Q (by-message k q i) = by-message k q i
  of (finishes t) S Q (by_state k q i) = by_state k q i
  of (finishes t) S Q (by-creation k q i) = by-creation k q i
  of (finishes t) S Q (by-behaviour k q i) = let z = dropped Q.behaviour t k q in by-behaviour k z.1 (rw (updated-other S.behaviour t [] k z.0) i)
  of (finishes t) S Q (by-message k q i) = by-message k q i
  of (renewed v c) S Q (by_state k q i) = let z = picked (v k) (Q.state k) q in by_state k z.1 (pick-view (λ w. v k ≡ false → In u a w) (v k) (one k (c k)) (S.state k) (λ e f. absurd (true≢false (sym e ∙ f))) (λ e f. i) z.0)
  of (renewed v c) S Q (by-creation k q i) = let z = picked (v k) (Q.creation k) q in by-creation k z.1 (pick-view (λ w. v k ≡ false → In u a w) (v k) [] (S.creation k) (λ e f. absurd (true≢false (sym e ∙ f))) (λ e f. i) z.0)
  of (renewed v c) S Q (by-behaviour k q i) = let z = picked (v k) (Q.behaviour k) q in by-behaviour k z.1 (pick-view (λ w. v k ≡ false → In u a w) (v k) [] (S.behaviour k) (λ e f. absurd (true≢false (sym e ∙ f))) (λ e f. i) z.0)
  of (renewed v c) S Q (by-message k q i) = by-message k q i
  of (annihilated t) S Q (by_state k q i) = let z = dropped Q.state t k q in by_state k z.1 (rw (updated-other S.state t [] k z.0) i)
  of (annihilated t) S Q (by-creation k q i) = let z = dropped Q.creation t k q in by-creation k z.1 (rw (updated-other S.creation t [] k z.0) i)
  of (annihilated t) S Q (by-behaviour k q i) = let z = dropped Q.behaviour t k q in by-behaviour k z.1 (rw (updated-other S.behaviour t [] k z.0) i)
  of (annihilated t) S Q (by-message k q i) = by-message k q i
  of (successive e f) S Q r = of f (change e S) Q (of e S (back f Q) r)

met-reached : (e : Event) (S : Sets) (Q : Places) {u : ℕ} {a : Incarnation} → Met e Q u a → Reached (change e S) Q u a
unfolding change
met-reached nothing S Q x = elim x [ ]
met-reached (cleared n) S Q x = elim x [ ]
met-reached (taken n t) S Q x = elim x [ ]
met-reached (reads t) S Q x = elim x [ ]
met-reached (writes t) S Q x = elim x [ ]
met-reached (finishes t) S Q x = elim x [ ]
met-reached (annihilated t) S Q x = elim x [ ]
met-reached (sent n t c) S Q (sender q) = by-message n q (rw (updated-same S.message n (S.creation t ++ S.behaviour t ++ one t c)) (Memᴰ.append_right (S.creation t ++ S.behaviour t) (Memᴰ.head refl)))
met-reached (opens t o c) S Q (opener q) = by-creation o q (rw (updated-same S.creation o (S.creation t ++ S.behaviour t ++ one t c)) (Memᴰ.append_right (S.creation t ++ S.behaviour t) (Memᴰ.head refl)))
met-reached (opens t o c) S Q (child q) = by_state o q (rw (updated-same S.state o (one o initial_incarnation)) (Memᴰ.head refl))
met-reached (opens t o c) S Q (child-known q) =
    let z = dropped Q.behaviour o t q in
    by-behaviour t z.1 (rw (updated-other (updated S.behaviour t (one o initial_incarnation ++ S.behaviour t)) o [] t z.0, updated-same S.behaviour t (one o initial_incarnation ++ S.behaviour t))
    (Memᴰ.append_left (S.behaviour t) (Memᴰ.head {xs = []} refl)))
met-reached (renewed v c) S Q (anew {t = t} e q) = by_state t q (rw e (Memᴰ.head refl))
met-reached (successive e f) S Q (in-later x) = met-reached f (change e S) Q x
met-reached (successive e f) S Q {u} {a} (in-earlier x) = of u a f (change e S) Q (met-reached e S (back f Q) x)

pub one-back : (e : Event) (S : Sets) (Q : Places) (u : ℕ) (a : Incarnation) → Reached (change e S) Q u a ↔ (Reached S (back e Q) u a ⊎ Met e Q u a)
one-back e S Q u a = (to u a e S Q, ⊎_elim (of u a e S Q) (met-reached e S Q))

-- ---- all steps

none-reached : (Q : Places) (u : ℕ) (a : Incarnation) → Reached no_sets Q u a → ⊥
none-reached Q u a (by_state t q i) = Memᴰ.not-nil i
none-reached Q u a (by-creation t q i) = Memᴰ.not-nil i
none-reached Q u a (by-behaviour t q i) = Memᴰ.not-nil i
none-reached Q u a (by-message t q i) = Memᴰ.not-nil i

reached-traced : (es : List Event) (Q : Places) (u : ℕ) (a : Incarnation) → Reached (sets_after es) Q u a → Traced es Q u a
unfolding sets_after
reached-traced [] Q u a r = absurd (none-reached Q u a r)
reached-traced (e ∷ es) Q u a r = ⊎_elim (λ x. further (reached-traced es (back e Q) u a x)) (λ x. here x) (to u a e (sets_after es) Q r)

traced-reached : {es : List Event} {Q : Places} {u : ℕ} {a : Incarnation} → Traced es Q u a → Reached (sets_after es) Q u a
unfolding sets_after
traced-reached (here {e} {es} {Q} x) = met-reached e (sets_after es) Q x
traced-reached (further {e} {es} {Q} {u} {a} x) = of u a e (sets_after es) Q (traced-reached x)

-- A life is in a set that is followed exactly if it is met on the way back.
pub traced-exact : (es : List Event) (Q : Places) (u : ℕ) (a : Incarnation) → Reached (sets_after es) Q u a ↔ Traced es Q u a
traced-exact es Q u a = (reached-traced es Q u a, traced-reached)
