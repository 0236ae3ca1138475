-- Two runs side by side: states that are the same but for the behaviour maps of some takes at work.
use Prim.Native.Nat.{ℕ, ◌≤◌, ◌<◌}
use mathlib.Core.Bool.{Bool, true, false, not}
use mathlib.Core.Path.{◌≡◌, refl, sym, subst, ◌∙◌}
use mathlib.Core.List.{List}
use mathlib.Core.Logic.{⊎_elim}
use native.Mathlib.Decide.{ℕ_discrete}
use native.Mathlib.Omega.{arith}
use lib.ListN.{length, get_or, set, length-set, get_or-eq_default}
use lib.Seq.{get_or-set_same, get_or-set_other}
use Rattle.octets.specs.Bytes.{◌and◌, tabulate}
use Rattle.octets.proofs.Tests.{never}
use Rattle.octets.proofs.Chunks.{sides, tabulate-same, tabulate-get_or, length-tabulate, get_d_tabulate}
use Rattle.maps.specs.declared.DependenceMap.{DependenceMap}
use Rattle.maps.specs.Map.{first_superseded, any_unrelated}
use Rattle.rules.specs.Layout.{Layout}
use Rattle.rules.specs.Status.{busy}
use Rattle.rules.specs.State.{Transactor, State, no_transactor, transactor_at, message_at, own_history, with_behaviour, with_transactor, with_opened, with_message, without_message, numbered, place_of}
use Rattle.rules.specs.declared.Step.{Step}
use Rattle.rules.specs.Rules.{is_some, known, message_superseded, receiver_superseded, message_unrelated, receipt_rolls_back, receipt_unrelated, seen, refusal}

-- A take in both: the same, or at work and the same but for its behaviour map. The latter only where d allows it.
pub data Alike : Bool → Transactor → Transactor → Type 0 where
  same : {d : Bool} {x : Transactor} → Alike d x x
  differing : {x : Transactor} → x.status ≡ busy → (n : DependenceMap) → Alike true x (with_behaviour x n)

-- what does not look at the behaviour map
pub alike-on : {B : Type 0} (f : Transactor → B) → ((x : Transactor) (n : DependenceMap) → f x ≡ f (with_behaviour x n)) → {d : Bool} {x z : Transactor} → Alike d x z → f x ≡ f z
alike-on f h same = refl
alike-on f h (differing {x} e n) = h x n

pub alike-off : {d : Bool} {x z : Transactor} → Alike d x z → d ≡ false → x ≡ z
alike-off same e = refl
alike-off (differing b n) e = never e

pub alike-idle : {d : Bool} {x z : Transactor} → Alike d x z → (x.status ≡ busy → ⊥) → x ≡ z
alike-idle same e = refl
alike-idle (differing b n) e = absurd (e b)

pub alike-wide : {d : Bool} {x z : Transactor} → Alike d x z → (d' : Bool) → d ≡ d' → Alike d' x z
alike-wide {x = x} {z = z} a d' e = subst (λ (c : Bool). Alike c x z) e a

-- ---- states

-- with other takes
abbrev pub with_transactors : State → List Transactor → State
with_transactors s l = record { limits = s.limits; opened = s.opened; next = s.next; transactors = l; messages = s.messages }

-- d t: the behaviour map of take t may be another
pub data Related (d : ℕ → Bool) (a : State) : State → Type 0 where
  related : {l : List Transactor} → length a.transactors ≡ length l → ((t : ℕ) → Alike (d t) (transactor_at a t) (get_or l t no_transactor)) → Related d a (with_transactors a l)

pub related-self : (d : ℕ → Bool) (a : State) → Related d a a
unfolding transactor_at
related-self d a = related refl (λ t. same)

-- where no map may be another, the states are the same
pub related-none : {d : ℕ → Bool} {a b : State} → Related d a b → ((t : ℕ) → d t ≡ false) → a ≡ b
unfolding transactor_at
related-none {d} {a} (related {l} many each) off =
    let e : a.transactors ≡ l =
    sym (tabulate-get_or a.transactors no_transactor (length l) many)
    ∙ tabulate-same (length l) (λ t. get_or a.transactors t no_transactor) (λ t. get_or l t no_transactor) (λ t h. alike-off (each t) (off t))
    ∙ tabulate-get_or l no_transactor (length l) refl in
    λ i. with_transactors a (e i)

pub related-wide : {d : ℕ → Bool} {a b : State} → Related d a b → (d' : ℕ → Bool) → ((t : ℕ) → d t ≡ d' t) → Related d' a b
related-wide (related many each) d' h = related many (λ t. alike-wide (each t) (d' t) (h t))

pub related-at : {d : ℕ → Bool} {a b : State} → Related d a b → (t : ℕ) → Alike (d t) (transactor_at a t) (transactor_at b t)
unfolding transactor_at
related-at (related many each) t = each t

-- ---- refusals look at no behaviour map

pub seen_same : (y : Layout) {d : ℕ → Bool} {a b : State} → Related d a b → seen y a ≡ seen y b
unfolding seen transactor_at message_at place_of numbered receipt_rolls_back receipt_unrelated message_superseded receiver_superseded message_unrelated
seen_same y {a = a} (related {l} many each) = λ i. record {
  limits = a.limits;
  opened = a.opened;
  next = a.next;
  waiting = length a.messages;
  status = λ t. alike-on (λ x. x.status) (λ x n. refl) (each t) i;
  stable = λ t. alike-on (λ x. (own_history t x).stable) (λ x n. refl) (each t) i;
  checkpoints = λ t. alike-on (λ x. (own_history t x).count) (λ x n. refl) (each t) i;
  incarnation = λ t. alike-on (λ x. (own_history t x).incarnation) (λ x n. refl) (each t) i;
  missing = (seen y a).missing;
  addressee = (seen y a).addressee;
  rolls = λ n. alike-on
      (λ x. not (is_some (first_superseded y.transactors (message_at a (place_of a n)).dependences (known y x)))
      and is_some (first_superseded y.transactors (known y x) (message_at a (place_of a n)).dependences))
      (λ x m. refl) (each (message_at a (place_of a n)).addressee) i;
  unrelated = λ n. alike-on (λ x. any_unrelated y.transactors (message_at a (place_of a n)).dependences (known y x)) (λ x m. refl) (each (message_at a (place_of a n)).addressee) i;
}

pub refusal-same : (y : Layout) {d : ℕ → Bool} {a b : State} → Related d a b → (p : Step) → refusal y a p ≡ refusal y b p
unfolding refusal
refusal-same y r p = rw (seen_same y r)

-- ---- changes

-- take t in both, and the others as they were
pub related-set : {d : ℕ → Bool} {a b : State} → Related d a b → (d' : ℕ → Bool) (t : ℕ) (x z : Transactor) → ((u : ℕ) → (u ≡ t → ⊥) → d u ≡ d' u) → Alike (d' t) x z
    → Related d' (with_transactor a t x) (with_transactor b t z)
unfolding transactor_at with_transactor
related-set {d} {a} (related {l} many each) d' t x z h k = related {l = set l t z} (length-set a.transactors t x ∙ many ∙ sym (length-set l t z)) (λ u. go u (ℕ_discrete u t))
  where
    go : (u : ℕ) → Dec (u ≡ t) → Alike (d' u) (get_or (set a.transactors t x) u no_transactor) (get_or (set l t z) u no_transactor)
    go u (no n) = rw (get_or-set_other a.transactors t u x no_transactor n, get_or-set_other l t u z no_transactor n) (alike-wide (each u) (d' u) (h u n))
    go u (yes e) = subst (λ (u : ℕ). Alike (d' u) (get_or (set a.transactors t x) u no_transactor) (get_or (set l t z) u no_transactor)) (sym e) (⊎_elim
        (λ (b : t < length l). rw (get_or-set_same a.transactors t x no_transactor (omega arith), get_or-set_same l t z no_transactor b) k)
        (λ (b : length l ≤ t). rw (get_or-eq_default (set a.transactors t x) no_transactor {n = t} (rw length-set (omega arith)), get_or-eq_default (set l t z) no_transactor {n = t} (rw length-set b)) same)
        (sides t (length l)))

pub related-opened : {d : ℕ → Bool} {a b : State} → Related d a b → (n : ℕ) → Related d (with_opened a n) (with_opened b n)
unfolding transactor_at with_opened
related-opened (related many each) n = related many each

pub related-message : {d : ℕ → Bool} {a b : State} → Related d a b → (to v : ℕ) (m : DependenceMap) → Related d (with_message a to v m) (with_message b to v m)
unfolding transactor_at with_message
related-message (related many each) to v m = related many each

pub related-without : {d : ℕ → Bool} {a b : State} → Related d a b → (k : ℕ) → Related d (without_message a k) (without_message b k)
unfolding transactor_at without_message
related-without (related many each) k = related many each

-- takes made anew
pub related-table : {d : ℕ → Bool} {a b : State} → Related d a b → (d' : ℕ → Bool) (n : ℕ) (f g : ℕ → Transactor) → ((t : ℕ) → Alike (d' t) (f t) (g t))
    → Related d' (with_transactors a (tabulate n f)) (with_transactors b (tabulate n g))
unfolding transactor_at
related-table (related many each) d' n f g h = related {l = tabulate n g} (length-tabulate f n ∙ sym (length-tabulate g n)) (λ t. ⊎_elim
    (λ (b : t < n). rw (get_d_tabulate f n t no_transactor b, get_d_tabulate g n t no_transactor b) (h t))
    (λ (b : n ≤ t). rw (get_or-eq_default (tabulate n f) no_transactor {n = t} (rw length-tabulate b), get_or-eq_default (tabulate n g) no_transactor {n = t} (rw length-tabulate b)) same)
    (sides t n))
