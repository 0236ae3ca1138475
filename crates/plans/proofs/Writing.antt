-- A plan as the code writes it: what is to be done with each take, its steps one behind the other, zeros after them.
use Prim.Native.Nat.{ℕ, suc, ◌+◌, ◌*◌, ◌-◌, ◌/◌, ◌%◌, ◌≤◌, ◌<◌}
use mathlib.Core.Bool.{Bool, true, false}
use mathlib.Core.Path.{◌≡◌, refl, sym, ap, ◌∙◌, subst}
use mathlib.Core.List.{List, [], ◌∷◌, ◌++◌}
use native.Mathlib.Numerals.{add-one}
use native.Mathlib.Omega.{arith}
use lib.Dec.{eqb, leb}
use Rattle.std.specs.Prelude.{Option, Some, None}
use lib.ListN.{length, take, drop, length-append, length-drop}
use borrow.Author.Tests.{eq-eqb, ne_eqb, lt-ltb, le-ltb}
use Rattle.octets.specs.Bytes.{pick, ◌and◌, put, chunks, zeros}
use Rattle.octets.specs.Numbers.{be}
use Rattle.octets.proofs.Put.{put-def, put-append, put-nil, put_whole}
use Rattle.octets.proofs.Zero.{length-zeros, zeros-is, all_zero-drop, all_zero-zeros}
use Rattle.rules.specs.Layout.{base, last_number}
use Rattle.rules.specs.Status.{idle}
use Rattle.rules.specs.State.{State, transactor_at, own_history}
use Rattle.rules.specs.Refusals.{named}
use Rattle.rules.specs.Step.{pack_step}
use Rattle.rules.specs.Pack.{unpack}
use Rattle.rules.specs.Calls.{steps_in, query_refusal}
use Rattle.rules.specs.Dependents.{through_at}
use Rattle.rules.specs.Impediment.{impediment_of}
use Rattle.rules.specs.Promises.{PlanPromise}
use Rattle.rules.specs.Internal.Closure.{Names}
use Rattle.rules.specs.Groups.{signing}
use Rattle.rules.specs.ReadyGroups.{how_many}
use Rattle.rules.specs.Plan.{waking, receipt, freezing, to_freeze, to_wake, steps_for, letters, letters_fit, resting_volume, mendable, steps_to_sign, plan_of, plan_bytes, plan_refusal, plan_answer, plan_out}
use Rattle.impediments.specs.Internal.Ways.{Reached}
use Rattle.rules.proofs.Groups.Dependents.{in_group, names-end}
use Rattle.rules.proofs.Pack.Steps.{length-pack_step}
use Rattle.plans.specs.declared.Task.{Task}
use Rattle.plans.specs.declared.Task.TheVariants.{Freeze, Wake}
use Rattle.plans.specs.Internal.Written.{row_names, task_of, tasked, next_number, Written, Planned}

-- ---- one take

-- the eight bytes of a step that has a kind, a take and a parcel
pub packed : (k t m : ℕ) → ◌≡◌ {A = List ℕ} ((16 * k + t) % 256 ∷ 0 ∷ m / 256 % 256 ∷ m % 256 ∷ 0 ∷ 0 ∷ 0 ∷ 0 ∷ []) (pack_step (record { kind = k; transactor = t; other = 0; zero = 0; message = m; value = 0 }))
unfolding pack_step be
packed k t m = refl

length_three : (c n : ℕ) → length (pack_step (waking c) ++ pack_step (receipt n) ++ pack_step (freezing c)) ≡ 24
length_three c n = rw (length-append (pack_step (waking c) ++ pack_step (receipt n)) (pack_step (freezing c)), length-append (pack_step (waking c)) (pack_step (receipt n)), length-pack_step (waking c), length-pack_step (receipt n), length-pack_step (freezing c))

pub tasked-short : (k : Option Task) (c n : ℕ) → length (tasked k c n) ≤ 24
tasked-short None c n = omega arith
tasked-short (Some Freeze) c n = omega (arith, length-pack_step (freezing c))
tasked-short (Some Wake) c n = omega (arith, length_three c n)

-- a letter is sent
wakes : Option Task → Bool
wakes (Some Wake) = true
wakes (Some Freeze) = false
wakes None = false

next-wakes : (k : Option Task) (n : ℕ) → next_number k n ≡ pick (wakes k) (n + 1) n
unfolding wakes
next-wakes None n = refl
next-wakes (Some Freeze) n = refl
next-wakes (Some Wake) n = refl

module _ (s : State) (g c : ℕ) where
  -- the four cases
  go-task : (P : Bool → Bool → Type 0) → P false false → P true false → P true true → P (to_freeze s g c) (to_wake s g c)
  unfolding to_wake
  go-task P none freeze wake = go (to_freeze s g c) (eqb (transactor_at s c).status idle)
    where
      go : (a b : Bool) → P a (a and b)
      go true true = wake
      go true false = freeze
      go false b = none

  pub task-tasked : tasked (task_of s g c) c (s.next + how_many c (to_wake s g)) ≡ steps_for s g c
  unfolding task_of steps_for
  task-tasked = go-task (λ a b. tasked (pick a (Some (pick b Wake Freeze)) None) c (s.next + how_many c (to_wake s g))
      ≡ pick a (pick b (pack_step (waking c) ++ pack_step (receipt (s.next + how_many c (to_wake s g))) ++ pack_step (freezing c)) (pack_step (freezing c))) []) refl refl refl

  task-wakes : wakes (task_of s g c) ≡ to_wake s g c
  unfolding task_of wakes
  task-wakes = go-task (λ a b. wakes (pick a (Some (pick b Wake Freeze)) None) ≡ b) refl refl refl

  pub task-number : next_number (task_of s g c) (s.next + how_many c (to_wake s g)) ≡ s.next + how_many (c + 1) (to_wake s g)
  unfolding how_many
  task-number = next-wakes (task_of s g c) (s.next + how_many c (to_wake s g)) ∙ rw task-wakes (go (to_wake s g c) ∙ ap (λ (i : ℕ). s.next + how_many i (to_wake s g)) {x = suc c} {y = c + 1} (omega arith))
    where
      go : (b : Bool) → pick b (s.next + how_many c (to_wake s g) + 1) (s.next + how_many c (to_wake s g)) ≡ s.next + (how_many c (to_wake s g) + pick b 1 0)
      go true = omega arith
      go false = omega arith

  -- by the code's tests
  pub task-unnamed : named g c ≡ false → None ≡ task_of s g c
  unfolding task_of to_freeze
  task-unnamed e = rw e

  pub task-frozen : named g c ≡ true → (own_history c (transactor_at s c)).stable ≡ true → None ≡ task_of s g c
  unfolding task_of to_freeze
  task-frozen e f = rw (e, f)

  module _ (e : named g c ≡ true) (f : (own_history c (transactor_at s c)).stable ≡ false) where
    pub task-wake : (transactor_at s c).status ≡ idle → Some Wake ≡ task_of s g c
    unfolding task_of to_freeze to_wake
    task-wake i = rw (e, f, eq-eqb (transactor_at s c).status idle i)

    pub task-freeze : ((transactor_at s c).status ≡ idle → ⊥) → Some Freeze ≡ task_of s g c
    unfolding task_of to_freeze to_wake
    task-freeze i = rw (e, f, ne_eqb (transactor_at s c).status idle i)

-- ---- the steps of a task

module _ (at c n : ℕ) (l : List ℕ) where
  pub tasked-none : Written (tasked None c n) at l l at
  tasked-none = record { is = put-nil at l; ends = omega arith }

  pub tasked-freeze : (l' : List ℕ) → l' ≡ put at (pack_step (freezing c)) l → Written (tasked (Some Freeze) c n) at l l' (at + 8)
  tasked-freeze l' f = record { is = f; ends = ap (λ (i : ℕ). at + i) (sym (length-pack_step (freezing c))) }

  pub tasked-wake : at + 24 ≤ length l → (l1 l2 l3 : List ℕ) → l1 ≡ put at (pack_step (waking c)) l → l2 ≡ put (at + 8) (pack_step (receipt n)) l1 → l3 ≡ put (at + 2 * 8) (pack_step (freezing c)) l2
      → Written (tasked (Some Wake) c n) at l l3 (at + 3 * 8)
  tasked-wake h l1 l2 l3 f1 f2 f3 = record {
    is = f3 ∙ three;
    ends = ap (λ (i : ℕ). at + i) (sym (length_three c n));
  }
    where
      a : length (pack_step (waking c)) ≡ 8
      a = length-pack_step (waking c)

      b : length (pack_step (receipt n)) ≡ 8
      b = length-pack_step (receipt n)

      d3 : length (pack_step (freezing c)) ≡ 8
      d3 = length-pack_step (freezing c)

      ab : length (pack_step (waking c) ++ pack_step (receipt n)) ≡ 16
      ab = length-append (pack_step (waking c)) (pack_step (receipt n)) ∙ omega (arith, a, b)

      two : l2 ≡ put at (pack_step (waking c) ++ pack_step (receipt n)) l
      two = f2 ∙ ap (put (at + 8) (pack_step (receipt n))) f1
          ∙ ap (λ (i : ℕ). put (at + i) (pack_step (receipt n)) (put at (pack_step (waking c)) l)) (sym a)
          ∙ put-append at (pack_step (waking c)) (pack_step (receipt n)) l (omega (arith, a, b))

      three : put (at + 2 * 8) (pack_step (freezing c)) l2 ≡ put at (pack_step (waking c) ++ pack_step (receipt n) ++ pack_step (freezing c)) l
      three = ap (put (at + 2 * 8) (pack_step (freezing c))) two
          ∙ ap (λ (i : ℕ). put (at + i) (pack_step (freezing c)) (put at (pack_step (waking c) ++ pack_step (receipt n)) l)) (sym ab)
          ∙ put-append at (pack_step (waking c) ++ pack_step (receipt n)) (pack_step (freezing c)) l (omega (arith, ab, d3))

-- ---- all takes

-- after c turns of the loop
pub record Stored (s : State) (g c : ℕ) (l l' : List ℕ) (at m : ℕ) : Type 0 where
  pub written : Written (chunks c (steps_for s g)) 0 l l' at
  pub short : at ≤ 24 * c
  pub number : m ≡ s.next + how_many c (to_wake s g)

pub stored-none : (s : State) (g : ℕ) (l : List ℕ) (n : ℕ) → n ≡ s.next → Stored s g 0 l l 0 n
unfolding chunks how_many
stored-none s g l n e = record { written = record { is = put-nil 0 l; ends = refl }; short = omega arith; number = e ∙ omega arith }

pub stored_more : {s : State} {g c : ℕ} {l l' l'' : List ℕ} {at at' n n' : ℕ} {k : Option Task} → Stored s g c l l' at n → c < 16 → length l ≡ 392 → k ≡ task_of s g c → Written (tasked k c n) at l' l'' at' → at' ≤ at + 24 → n' ≡ next_number k n
    → Stored s g (c + 1) l l'' at' n'
unfolding chunks
stored_more {s} {g} {c} {l} {l'} {l''} {at} {at'} {n} {n'} {k} p h long e w q f = record {
  written = rw add-one (record {
    is = w.is ∙ ap (λ (b : List ℕ). put at b l') is-steps ∙ ap (λ (i : ℕ). put i (steps_for s g c) l') p.written.ends ∙ ap (put (0 + length (chunks c (steps_for s g))) (steps_for s g c)) p.written.is
        ∙ put-append 0 (chunks c (steps_for s g)) (steps_for s g c) l (omega (arith, p.short, p.written.ends, long, short-steps));
    ends = w.ends ∙ omega (arith, p.written.ends, ap length is-steps, length-append (chunks c (steps_for s g)) (steps_for s g c));
  });
  short = omega (arith, p.short);
  number = f ∙ ap (λ (i : Option Task). next_number i n) e ∙ ap (next_number (task_of s g c)) p.number ∙ task-number s g c;
}
  where
    is-steps : tasked k c n ≡ steps_for s g c
    is-steps = ap (λ (i : Option Task). tasked i c n) e ∙ ap (tasked (task_of s g c) c) p.number ∙ task-tasked s g c

    short-steps : length (steps_for s g c) ≤ 24
    short-steps = subst (λ (b : List ℕ). length b ≤ 24) is-steps (tasked-short k c n)

-- ---- the whole

drop-zeros : (k n : ℕ) → drop k (zeros n) ≡ zeros (n - k)
drop-zeros k n = zeros-is (drop k (zeros n)) (all_zero-drop k (zeros n) (all_zero-zeros n)) ∙ ap zeros (rw (length-drop, length-zeros))

put-zeros : (b : List ℕ) (n : ℕ) → put 0 b (zeros n) ≡ b ++ zeros (n - length b)
put-zeros b n = put-def 0 b (zeros n) ∙ first b (zeros n) ∙ ap (λ (l : List ℕ). b ++ l) (drop-zeros (length b) n)
  where
    first : (b l : List ℕ) → take 0 l ++ b ++ drop (0 + length b) l ≡ b ++ drop (length b) l
    first b l = ap (λ (i : ℕ). b ++ drop i l) {x = 0 + length b} {y = length b} (omega arith)

-- nothing is written
pub planned-none : (b l : List ℕ) → b ≡ [] → l ≡ zeros (plan_bytes base) → Planned b l 0
planned-none b l e f = record { is = f ∙ ap (λ (c : List ℕ). c ++ zeros (plan_bytes base - length c)) (sym e); many = ap (λ (c : List ℕ). steps_in c) (sym e) }

module _ (s : State) (g : ℕ) where
  pub sign-none : letters_fit base s g ≡ false → steps_to_sign base s g ≡ []
  unfolding steps_to_sign
  sign-none e = rw e

  -- the steps of all takes, and the signing behind them
  pub planned-some : letters_fit base s g ≡ true → (l l' l'' : List ℕ) (at : ℕ) → l ≡ zeros (plan_bytes base) → Written (chunks base.transactors (steps_for s g)) 0 l l' at → at ≤ 384
      → l'' ≡ put at (pack_step (signing g)) l' → Planned (steps_to_sign base s g) l'' (at / 8 + 1)
  unfolding steps_to_sign
  planned-some e l l' l'' at f w h q = rw e (record {
    is = q ∙ ap (λ (i : ℕ). put i (pack_step (signing g)) l') w.ends ∙ ap (put (0 + length b) (pack_step (signing g))) w.is
        ∙ put-append 0 b (pack_step (signing g)) l (omega (arith, w.ends, n, long)) ∙ ap (put 0 (b ++ pack_step (signing g))) f ∙ put-zeros (b ++ pack_step (signing g)) (plan_bytes base);
    many = let k : length (b ++ pack_step (signing g)) ≡ at + 8 = length-append b (pack_step (signing g)) ∙ omega (arith, w.ends, n) in omega arith;
  })
    where
      b : List ℕ
      b = chunks base.transactors (steps_for s g)

      n : length (pack_step (signing g)) ≡ 8
      n = length-pack_step (signing g)

      long : length l ≡ 392
      long = ap length f ∙ length-zeros (plan_bytes base)

-- ---- as the code comes by them

pub stored-step : (k t m at : ℕ) (l l' : List ℕ) → l' ≡ put at ((16 * k + t) % 256 ∷ 0 ∷ m / 256 % 256 ∷ m % 256 ∷ 0 ∷ 0 ∷ 0 ∷ 0 ∷ []) l
    → l' ≡ put at (pack_step (record { kind = k; transactor = t; other = 0; zero = 0; message = m; value = 0 })) l
stored-step k t m at l l' e = e ∙ ap (λ (b : List ℕ). put at b l) (packed k t m)

module _ (s : State) (g c : ℕ) (k : Option Task) (is : k ≡ task_of s g c) where
  pub wake-on : k ≡ Some Wake → to_wake s g c ≡ true
  unfolding wakes
  wake-on e = sym (task-wakes s g c) ∙ ap wakes (sym is ∙ e)

  pub wake-off : (k ≡ Some Wake → ⊥) → to_wake s g c ≡ false
  unfolding wakes
  wake-off d = sym (task-wakes s g c) ∙ ap wakes (sym is) ∙ off k d
    where
      off : (k : Option Task) → (k ≡ Some Wake → ⊥) → wakes k ≡ false
      off None d = refl
      off (Some Freeze) d = refl
      off (Some Wake) d = absurd (d refl)

pub letters-is : (s : State) (g n : ℕ) → n ≡ how_many base.transactors (to_wake s g) → n ≡ letters base s g
unfolding letters
letters-is s g n e = e

-- ---- whether the letters fit

module _ (s : State) (g n : ℕ) (is : n ≡ letters base s g) where
  pub fit_none : n ≡ 0 → true ≡ letters_fit base s g
  unfolding letters_fit
  fit_none e = rw (eq-eqb (letters base s g) 0 (sym is ∙ e))

  module _ (some : n ≡ 0 → ⊥) where
    none : eqb (letters base s g) 0 ≡ false
    none = ne_eqb (letters base s g) 0 (λ (e : letters base s g ≡ 0). some (is ∙ e))

    pub fit-full : s.limits.messages ≤ length s.messages → false ≡ letters_fit base s g
    unfolding letters_fit
    fit-full h = rw (none, le-ltb (length s.messages) s.limits.messages h)

    pub fit-numbers : length s.messages < s.limits.messages → (m : ℕ) → m ≡ s.next → leb (m + n) 65535 ≡ letters_fit base s g
    unfolding letters_fit
    fit-numbers h m e = rw (none, lt-ltb (length s.messages) s.limits.messages h) (ap (λ (i : ℕ). leb (i + n) 65535) e ∙ ap (λ (i : ℕ). leb (s.next + i) last_number) is)

-- ---- the volume

-- the rows of who rests on each
pub resting-group-is : (s : State) (t : ℕ) {rows nexts : List ℕ} → Reached base s base.transactors t rows nexts → t < base.transactors → (v : ℕ) → Names (row_names rows t) base.transactors v
    → v ≡ resting_volume base s t
unfolding resting_volume row_names
resting-group-is s t r l v k = names-end (record { bits = k.bits; exactly = λ c h. k.exactly c h ∙ ap (λ (x : ℕ). named x t) (r.through.is c h) ∙ in_group base.transactors (through_at s base.transactors c) t l }) (omega arith) (omega arith)

-- ---- the call's returns

module _ (img : List ℕ) (t : ℕ) (out : List ℕ) where
  pub plan-refused : (r : ℕ) → r ≡ query_refusal base img t → (r ≡ 0 → ⊥) → PlanPromise base img t out r out 0
  unfolding plan_refusal plan_answer plan_out
  plan-refused r e n =
      let d : query_refusal base img t ≡ 0 → ⊥ = λ f. n (e ∙ f) in
      rw (ne_eqb (query_refusal base img t) 0 d) (rw (ne_eqb (query_refusal base img t) 0 d) (e, refl, refl))

  module _ (r : ℕ) (e : r ≡ query_refusal base img t) (z : r ≡ 0) where
    accepts : eqb (query_refusal base img t) 0 ≡ true
    accepts = eq-eqb (query_refusal base img t) 0 (sym e ∙ z)

    pub plan-room : (length out ≡ plan_bytes base → ⊥) → PlanPromise base img t out 18 out 0
    unfolding plan_refusal plan_answer plan_out
    plan-room n = rw (accepts, ne_eqb (length out) (plan_bytes base) n) (refl, refl, refl)

    module _ (room : length out ≡ plan_bytes base) where
      pub plan-lasting : (l : List ℕ) → l ≡ put 0 (zeros (plan_bytes base)) out → mendable (impediment_of base (unpack base img) t) ≡ false → PlanPromise base img t out 0 l 0
      unfolding plan_refusal plan_answer plan_out plan_of
      plan-lasting l f m = rw (accepts, eq-eqb (length out) (plan_bytes base) room, m) (refl, f ∙ put_whole (zeros (plan_bytes base)) out (length-zeros (plan_bytes base) ∙ sym room), refl)

      pub plan-some : (g : ℕ) → g ≡ resting_volume base (unpack base img) t → (l : List ℕ) (n : ℕ) → Planned (steps_to_sign base (unpack base img) g) l n → mendable (impediment_of base (unpack base img) t) ≡ true → PlanPromise base img t out 0 l n
      unfolding plan_refusal plan_answer plan_out plan_of
      plan-some g i l n p m = rw (accepts, eq-eqb (length out) (plan_bytes base) room, m) (
        refl,
        p.is ∙ ap (λ (v : ℕ). steps_to_sign base (unpack base img) v ++ zeros (plan_bytes base - length (steps_to_sign base (unpack base img) v))) i,
        p.many ∙ ap (λ (v : ℕ). steps_in (steps_to_sign base (unpack base img) v)) i,
      )

pub cleared : (l l' : List ℕ) → length l ≡ plan_bytes base → l' ≡ put 0 (zeros (plan_bytes base)) l → l' ≡ zeros (plan_bytes base)
cleared l l' h e = e ∙ put_whole (zeros (plan_bytes base)) l (length-zeros (plan_bytes base) ∙ sym h)
