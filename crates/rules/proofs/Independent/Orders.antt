-- Orders of the same steps: exchanges after exchanges, and back again.
use Prim.Native.Nat.{ℕ, ◌+◌, ◌*◌, ◌/◌, ◌%◌, ◌≤◌}
use mathlib.Core.Path.{◌≡◌, sym, ap, ◌∙◌, subst}
use mathlib.Core.List.{List, [], ◌∷◌, ◌++◌}
use native.Mathlib.Omega.{arith}
use lib.ListN.{length}
use Rattle.octets.specs.Bytes.{chunks}
use Rattle.rules.specs.Layout.{Layout}
use Rattle.rules.specs.State.{State}
use Rattle.rules.specs.Step.{Step, step_bytes, step_at}
use Rattle.rules.specs.Pack.{pack, unpack}
use Rattle.rules.specs.Calls.{state_after, reply_at, steps_in, ran_image, ran_replies}
use Rattle.rules.specs.Exchange.{exchanged_at}
use Rattle.rules.specs.Independent.{Independent, rearranged, Reorders, as_is, exchange, Orders, StepsReordered}
use Rattle.rules.proofs.Exchange.Runs.{length_exchanged}
use Rattle.rules.proofs.Independent.Runs.{full-unpack, rearranged-none, rearranged-first, length-rearranged, steps-reordered}
use Rattle.rules.proofs.Independent.Late.{step-here, step-next, state-before, exchanged-twice}

rearranged-then : (places more b : List ℕ) → rearranged 0 (places ++ more) b ≡ rearranged 0 more (rearranged 0 places b)
rearranged-then [] more b = ap (rearranged 0 more) (sym (rearranged-none 0 b))
rearranged-then (i ∷ rest) more b =
    rearranged-first i (rest ++ more) b ∙ rearranged-then rest more (exchanged_at (step_bytes * i) b) ∙ ap (rearranged 0 more) (sym (rearranged-first i rest b))

module _ {y : Layout} {s : State} where
  -- some exchanges, and then others
  pub reorders-then : {places more b : List ℕ} → Reorders y s places b → Reorders y s more (rearranged 0 places b) → Reorders y s (places ++ more) b
  reorders-then {more = more} (as_is b) r = subst (Reorders y s more) (rearranged-none 0 b) r
  reorders-then {more = more} (exchange i rest b h x q) r = exchange i (rest ++ more) b h x (reorders-then q (subst (Reorders y s more) (rearranged-first i rest b) r))

  -- one exchange may be taken back
  one-back : (i : ℕ) (b : List ℕ) → i + 2 ≤ steps_in b → Independent y (state_after y s b i) (step_at b i) (step_at b (i + 1)) → Reorders y s (i ∷ []) (exchanged_at (step_bytes * i) b)
  one-back i b h x =
      let long : step_bytes * (i + 2) ≤ length b = omega arith in
      let b' : List ℕ = exchanged_at (step_bytes * i) b in
      let short : length b' ≡ length b = length_exchanged (step_bytes * i) b in
      let e : state_after y s b' i ≡ state_after y s b i = state-before b i long y s i (omega arith) in
      let p : step_at b' i ≡ step_at b (i + 1) = step-here b i long in
      let q : step_at b' (i + 1) ≡ step_at b i = step-next b i long in
      let turned : Independent y (state_after y s b i) (step_at b (i + 1)) (step_at b i) = record { forth = x.back; back = x.forth } in
      let x' : Independent y (state_after y s b' i) (step_at b' i) (step_at b' (i + 1)) = subst (λ (v : Step). Independent y (state_after y s b' i) (step_at b' i) v) (sym q)
      (subst (λ (v : Step). Independent y (state_after y s b' i) v (step_at b i)) (sym p) (subst (λ (v : State). Independent y v (step_at b (i + 1)) (step_at b i)) (sym e) turned)) in
      exchange i [] b' (omega arith) x' (as_is (exchanged_at (step_bytes * i) b'))

-- ---- an equivalence

module _ {y : Layout} {s : State} where
  pub orders-same : (b : List ℕ) → Orders y s b b
  orders-same b = record { places = []; reorders = as_is b; is = rearranged-none 0 b }

  pub orders-then : {b c d : List ℕ} → Orders y s b c → Orders y s c d → Orders y s b d
  orders-then {b} {c} {d} m n = record {
    places = m.places ++ n.places;
    reorders = reorders-then m.reorders (subst (Reorders y s n.places) (sym m.is) n.reorders);
    is = rearranged-then m.places n.places b ∙ ap (rearranged 0 n.places) m.is ∙ n.is;
  }

  back-of : (places b : List ℕ) → Reorders y s places b → Orders y s (rearranged 0 places b) b
  back-of places b (as_is c) = subst (λ (l : List ℕ). Orders y s l b) (sym (rearranged-none 0 b)) (orders-same b)
  back-of places b (exchange i rest c h x more) =
      let b' : List ℕ = exchanged_at (step_bytes * i) b in
      let long : step_bytes * (i + 2) ≤ length b = omega arith in
      let there : Orders y s (rearranged 0 rest b') b' = back-of rest b' more in
      let one : Orders y s b' b = record { places = i ∷ []; reorders = one-back i b h x; is = rearranged-first i [] b' ∙ rearranged-none 0 _ ∙ exchanged-twice b i long } in
      subst (λ (l : List ℕ). Orders y s l b) (sym (rearranged-first i rest b)) (orders-then there one)

  pub orders-back : {b c : List ℕ} → Orders y s b c → Orders y s c b
  orders-back {b} m = subst (λ (l : List ℕ). Orders y s l b) m.is (back-of m.places b m.reorders)

-- whole steps in another order leave the same image
pub orders-image : (y : Layout) (img b c : List ℕ) → length b % step_bytes ≡ 0 → Orders y (unpack y img) b c → ran_image y img c ≡ ran_image y img b
unfolding ran_image
orders-image y img b c e m =
    let r : StepsReordered y (unpack y img) b m.places = steps-reordered y (unpack y img) (full-unpack y img) m.places b e m.reorders in
    let long : length c ≡ length b = ap length (sym m.is) ∙ length-rearranged 0 m.places b in
    let same : steps_in c ≡ steps_in b = ap (λ (n : ℕ). n / step_bytes) long in
    ap (pack y) (ap (state_after y (unpack y img) c) same ∙ ap (λ (l : List ℕ). state_after y (unpack y img) l (steps_in b)) (sym m.is) ∙ r.state)

-- and every step has its reply, in its new place
pub orders-replies : (y : Layout) (img b c : List ℕ) → length b % step_bytes ≡ 0 → (m : Orders y (unpack y img) b c) → ran_replies y img c ≡ rearranged 0 m.places (ran_replies y img b)
unfolding ran_replies
orders-replies y img b c e m =
    let s : State = unpack y img in
    let r : StepsReordered y s b m.places = steps-reordered y s (full-unpack y img) m.places b e m.reorders in
    let long : length c ≡ length b = ap length (sym m.is) ∙ length-rearranged 0 m.places b in
    let same : steps_in c ≡ steps_in b = ap (λ (n : ℕ). n / step_bytes) long in
    ap (λ (n : ℕ). chunks n (reply_at y s c)) same ∙ ap (λ (l : List ℕ). chunks (steps_in b) (reply_at y s l)) (sym m.is) ∙ r.replies
