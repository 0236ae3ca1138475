-- What is in the way, as the code tests it.
use Prim.Native.Nat.{ℕ, ◌<◌}
use mathlib.Core.Bool.{Bool, true, false, not}
use mathlib.Core.Path.{◌≡◌, refl, sym, ap, ◌∙◌, subst}
use mathlib.Core.List.{List}
use native.Mathlib.Omega.{arith}
use lib.Dec.{ltb}
use lib.ListN.{get_or}
use borrow.Author.Tests.{lt-ltb, le-ltb}
use Rattle.std.specs.Prelude.{Option, Some, None, is_some, unwrap_or, cond}
use Rattle.octets.specs.Bytes.{pick, ◌and◌, ◌or◌}
use Rattle.marks.specs.declared.History.{History}
use Rattle.maps.specs.declared.DependenceMap.{DependenceMap}
use Rattle.maps.specs.Map.{history_at}
use Rattle.rules.specs.declared.Obstacle.{Obstacle}
use Rattle.rules.specs.declared.Impediment.TheVariants.{Hopeless, Exhausted, Unstable}
use Rattle.rules.specs.Layout.{Layout}
use Rattle.rules.specs.State.{State, Transactor, transactor_at, own_history, place_from}
use Rattle.rules.specs.Refusals.{named}
use Rattle.rules.specs.Rules.{entry_ready}
use Rattle.rules.specs.Dependents.{through_at}
use Rattle.rules.specs.Obstacle.{blocks_in, ground_of, entry_obstacle}
use Rattle.rules.specs.Impediment.{is_withdrawn, withdrawn_in, withdrawn_by, lost_ground, impedes_at, lowest_for, next_at, impediment_of}
use Rattle.rules.specs.Internal.Guards.{is_full}
use Rattle.rules.proofs.Groups.Dependents.{in_group}
use Rattle.rules.proofs.Groups.Impediments.{in-way}
use Rattle.image.specs.Internal.Search.{Found}
use Rattle.image.proofs.Search.{First}
use Rattle.impediments.specs.Internal.Ways.{Reached}

-- ---- marks of withdrawn lives

module _ (s : State) (v c u : ℕ) (all : named v u ≡ true) where
  -- what blocks in a volume that names its take is a withdrawn life
  blocks-withdrawn : (m : DependenceMap) → blocks_in s v m u ≡ withdrawn_in s m u
  unfolding blocks_in entry_ready withdrawn_in is_withdrawn
  blocks-withdrawn m = rw all

  some_or : (a b : Bool) (g h : Obstacle) → is_some (pick a (Some g) (pick b (Some h) None)) ≡ a or b
  some_or true b g h = refl
  some_or false true g h = refl
  some_or false false g h = refl

  pub entry-withdrawn : {o : Option Obstacle} → o ≡ entry_obstacle s v c u → is_some o ≡ withdrawn_by s c u
  unfolding entry_obstacle withdrawn_by
  entry-withdrawn e =
      let of : DependenceMap → Obstacle = λ m. ground_of s c u (history_at m u) in
      let x : Transactor = transactor_at s c in
      ap (λ (o : Option Obstacle). is_some o) e
      ∙ rw (blocks-withdrawn x.state, blocks-withdrawn x.creation)
      (some_or (withdrawn_in s x.state u) (withdrawn_in s x.creation u) (of x.state) (of x.creation))

-- ---- the three tests

-- a place is found exactly if it is one of the n
found-some : (p n : ℕ) (r : Option ℕ) → Found p n r → is_some r ≡ ltb p n
found-some p n None f = sym (le-ltb p n (omega (arith, f)))
found-some p n (Some k) f = sym (lt-ltb p n (omega (arith, f.0, f.1)))

module _ (y : Layout) (s : State) (c : ℕ) where
  pub impedes-hopeless : (r : Option ℕ) → Found (lost_ground y s c) y.transactors r → is_some r ≡ impedes_at y s 1 c
  unfolding impedes_at
  impedes-hopeless r f = found-some (lost_ground y s c) y.transactors r f

  pub impedes-exhausted : is_full s c ≡ impedes_at y s 2 c
  unfolding impedes_at is_full
  impedes-exhausted = refl

  pub impedes-unstable : (h : History) → h ≡ own_history c (transactor_at s c) → not h.stable ≡ impedes_at y s 3 c
  unfolding impedes_at
  impedes-unstable h e = ap (λ (z : History). not z.stable) e

-- ---- the lowest of them

-- the takes in the way
unfoldable pub in_way : Layout → State → ℕ → ℕ → ℕ → Bool
in_way y s kind t c = through_at s y.transactors c t and impedes_at y s kind c

module _ (y : Layout) (s : State) (kind t : ℕ) where
  pub way-is : {rows nexts : List ℕ} → Reached y s y.transactors t rows nexts → (c : ℕ) → c < y.transactors → t < y.transactors
      → {b : Bool} → b ≡ cond (named (get_or rows c 0) t) (impedes_at y s kind c) false → b ≡ in_way y s kind t c
  unfolding in_way
  way-is {rows} r c h l q =
      let i : named (get_or rows c 0) t ≡ through_at s y.transactors c t = ap (λ (x : ℕ). named x t) (r.through.is c h) ∙ in_group y.transactors (through_at s y.transactors c) t l in
      q ∙ rw i

  -- as the code tests the rows
  pub rows-first : {rows nexts : List ℕ} → Reached y s y.transactors t rows nexts → t < y.transactors → (r : Option ℕ)
      → First (λ c. cond (named (get_or rows c 0) t) (impedes_at y s kind c) false) y.transactors r → First (in_way y s kind t) y.transactors r
  rows-first q l None h = λ k a b. sym (way-is q k b l (sym (h k a b)))
  rows-first q l (Some i) h = (h.0, h.1, sym (way-is q i h.1 l (sym h.2)), λ k a b. sym (way-is q k (omega (arith, h.1)) l (sym (h.3 k a b))))

  pub lowest-found : (r : Option ℕ) → Found (place_from (in_way y s kind t) 0 y.transactors) y.transactors r → Found (lowest_for y s kind t) y.transactors r
  unfolding lowest_for in_way
  lowest-found r p = p

pub lost-found : (y : Layout) (s : State) (c : ℕ) (r : Option ℕ) → Found (place_from (withdrawn_by s c) 0 y.transactors) y.transactors r → Found (lost_ground y s c) y.transactors r
unfolding lost_ground
lost-found y s c r p = p

-- the place that is found, or the one where the search ended
pub found-or : (p n : ℕ) (r : Option ℕ) → Found p n r → unwrap_or r n ≡ p
found-or p n None f = sym f
found-or p n (Some k) f = f.0

-- ---- the answer

module _ (y : Layout) (s : State) (t : ℕ) {rows nexts : List ℕ} (r : Reached y s y.transactors t rows nexts) where
  next-is : {c x k : ℕ} → x ≡ get_or nexts c 0 → c ≡ k → c < y.transactors → x ≡ next_at s y.transactors k t
  next-is {c} e q h = e ∙ r.next.is c h ∙ ap (λ (z : ℕ). next_at s y.transactors z t) q

  pub answer-hopeless : {c u x : ℕ} → c ≡ lowest_for y s 1 t → c < y.transactors → u ≡ lost_ground y s c → x ≡ get_or nexts c 0 → Some (Hopeless c u x) ≡ impediment_of y s t
  unfolding impediment_of
  answer-hopeless {c} {u} {x} e1 h q p =
      let f : u ≡ lost_ground y s (lowest_for y s 1 t) = q ∙ ap (lost_ground y s) e1 in
      let g : x ≡ next_at s y.transactors (lowest_for y s 1 t) t = next-is p e1 h in
      rw (ap (λ (k : ℕ). ltb k y.transactors) (sym e1) ∙ lt-ltb c y.transactors h) (λ i. Some (Hopeless (e1 i) (f i) (g i)))

  off : {k : ℕ} → k ≡ y.transactors → ltb k y.transactors ≡ false
  off {k} e = le-ltb k y.transactors (omega arith)

  module _ (n1 : lowest_for y s 1 t ≡ y.transactors) where
    pub answer-exhausted : {d x : ℕ} → d ≡ lowest_for y s 2 t → d < y.transactors → x ≡ get_or nexts d 0 → Some (Exhausted d x) ≡ impediment_of y s t
    unfolding impediment_of
    answer-exhausted {d} {x} e2 h p =
        let g : x ≡ next_at s y.transactors (lowest_for y s 2 t) t = next-is p e2 h in
        rw (off n1, ap (λ (k : ℕ). ltb k y.transactors) (sym e2) ∙ lt-ltb d y.transactors h) (λ i. Some (Exhausted (e2 i) (g i)))

    module _ (n2 : lowest_for y s 2 t ≡ y.transactors) where
      pub answer-unstable : {e x : ℕ} → e ≡ lowest_for y s 3 t → e < y.transactors → x ≡ get_or nexts e 0 → Some (Unstable e x) ≡ impediment_of y s t
      unfolding impediment_of
      answer-unstable {e} {x} e3 h p =
          let g : x ≡ next_at s y.transactors (lowest_for y s 3 t) t = next-is p e3 h in
          rw (off n1, off n2, ap (λ (k : ℕ). ltb k y.transactors) (sym e3) ∙ lt-ltb e y.transactors h) (λ i. Some (Unstable (e3 i) (g i)))

      pub answer-nothing : lowest_for y s 3 t ≡ y.transactors → None ≡ impediment_of y s t
      unfolding impediment_of
      answer-nothing n3 = rw (off n1, off n2, off n3)
