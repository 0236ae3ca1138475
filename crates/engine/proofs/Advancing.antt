-- One step of a list: the tests that the walks answer.
use Prim.Native.Nat.{ℕ, zero, suc, ◌<◌}
use mathlib.Core.Bool.{Bool, true, false, not}
use mathlib.Core.Path.{◌≡◌, refl, ap, sym, ◌∙◌, subst}
use mathlib.Core.List.{List}
use native.Mathlib.Omega.{arith}
use Rattle.std.specs.Prelude.{Result}
use Rattle.rules.specs.declared.refusals.Refusal.{Refusal}
use Rattle.octets.specs.Bytes.{pick, ◌and◌, ◌or◌, every, any}
use Rattle.rules.specs.Layout.{base}
use Rattle.rules.specs.declared.Step.{Step}
use Rattle.rules.specs.Step.{receive}
use Rattle.rules.specs.Refusals.{group_bits, named, any_named, sends, malformed}
use Rattle.engine_tables.specs.declared.table.Row.{Row}
use Rattle.engine_tables.specs.declared.table.Slot.{Slot}
use Rattle.engine_tables.specs.Internal.Tables.{play}
use Rattle.engine_chains.specs.Internal.Walk.{Walk}
use Rattle.engine_chains.specs.Internal.Walk.{receipt_back, sign_walk}
use Rattle.engine_replies.specs.Internal.Engine.{all_stable, receipt_walk, ready_in}
use Rattle.engine_tables.specs.declared.register.Register.{Register}
use Rattle.engine_tables.specs.declared.turns.Operands.{Operands}
use Rattle.engine_tables.specs.declared.turns.Turn.{Turn}
use Rattle.engine_tables.specs.declared.turns.GroupTurn.{GroupTurn}
use Rattle.engine_tables.specs.Internal.Register.{row_at, view_of}
use Rattle.engine_tables.specs.Internal.Guards.{any_unstable}
use Rattle.engine_tables.specs.Internal.Turns.{place_of, turn_in, group_turn_in, Holds, Turns, Receives, Signs, Asked}
use Rattle.engine_tables.proofs.Outcomes.{receiver}
use Rattle.engine.specs.Internal.Advance.{Advances, AdvancesGroup, Ahead}

pub asked : {steps replies : List ℕ} {i : ℕ} {x : Operands} {p : Step} → Ahead steps replies i x p → malformed p ≡ false → (k : ℕ) → p.kind ≡ k → Asked k x p
asked a formed k e = record { formed = formed; kind = e; subject = a.subject; limits = a.limits }

-- of a receipt the take is the receiver
pub receiver-below : {steps replies : List ℕ} {i : ℕ} {x : Operands} {p : Step} → Ahead steps replies i x p → p.kind ≡ receive → x.slot.addressee < group_bits
receiver-below {x = x} {p = p} a k = let e = receiver x p a.subject k in omega (arith, a.within)

module _ (steps replies : List ℕ) (i : ℕ) (x : Operands) (p : Step) (u : Turn) where
  -- where no test counts
  pub advance-any : x.at < group_bits → Turns x p u → Advances steps replies i x p u
  advance-any h t = record { plays = λ R F l. (t.by _ _ _).plays R F l; within = (t.by false false false).within h }

  -- a receipt: the parcel that it looks at is its own
  own-walk : p.kind ≡ receive → (R : ℕ → Row) (F : ℕ → Slot) → Holds x p R F
      → receipt_walk (view_of x.register R F) steps replies i p.message ≡ receipt_back steps replies i p.message x.slot.addressee
  unfolding receipt_walk view_of place_of
  own-walk e R F l = ap (λ (z : Slot). receipt_back steps replies i p.message z.addressee) (own ∙ l.slot)
    where
      own : F p.message ≡ F (pick (sends p.kind) x.register.next p.message)
      own = rw e

  pub advance-receive : x.at < group_bits → p.kind ≡ receive → (d f : Bool)
      → d ≡ (receipt_back steps replies i p.message x.slot.addressee).left_is_superseded
      → f ≡ (receipt_back steps replies i p.message x.slot.addressee).right_is_superseded
      → Receives d f x p u → Advances steps replies i x p u
  advance-receive h e d f left right r = record {
    plays = λ R F l.
        let w = own-walk e R F l in
        let T = view_of x.register R F in
        let g = ready_in T steps replies i p.message in
        (r.by g).plays R F l ∙ (λ j. play base T p ((left ∙ ap (λ (z : Walk). z.left_is_superseded) (sym w)) j) ((right ∙ ap (λ (z : Walk). z.right_is_superseded) (sym w)) j) g);
    within = (r.by false).within h;
  }

-- refused or not
pub settled : {steps replies : List ℕ} {i : ℕ} {p : Step} (o z : Operands) (r : Result Turn Refusal) (u : Turn) → u ≡ turn_in o r → o ≡ z → Advances steps replies i o p (turn_in o r) → Advances steps replies i z p u
settled {steps} {replies} {i} {p} o z r u e q a = subst (λ (x : Operands). Advances steps replies i x p u) q (subst (λ (u : Turn). Advances steps replies i o p u) (sym e) a)

pub group-settled : {steps replies : List ℕ} {i : ℕ} {x : Register} {p : Step} (rows : List Row) (r : Result GroupTurn Refusal) (u : GroupTurn) → u ≡ group_turn_in rows r
    → AdvancesGroup steps replies i x rows p (group_turn_in rows r) → AdvancesGroup steps replies i x rows p u
group-settled {steps} {replies} {i} {x} {p} rows r u e a = subst (λ (u : GroupTurn). AdvancesGroup steps replies i x rows p u) (sym e) a

-- ---- a signing

not-any : (n : ℕ) (f g : ℕ → Bool) → every n (λ t. not (f t) or g t) ≡ not (any n (λ t. f t and not (g t)))
unfolding every any
not-any zero f g = refl
not-any (suc n) f g = ap (λ (c : Bool). c and (not (f n) or g n)) (not-any n f g) ∙ go (any n (λ t. f t and not (g t))) (f n) (g n)
  where
    go : (a b c : Bool) → not a and (not b or c) ≡ not (a or (b and not c))
    go true b c = refl
    go false true true = refl
    go false true false = refl
    go false false c = refl

module _ (steps replies : List ℕ) (i : ℕ) (x : Register) (rows : List Row) (p : Step) (u : GroupTurn) where
  abbrev unstable : Bool
  unstable = any_unstable (row_at rows) p.message

  stable-is : (F : ℕ → Slot) → all_stable (view_of x (row_at rows) F) p.message ≡ not unstable
  unfolding all_stable view_of any_unstable any_named
  stable-is F = not-any group_bits (named p.message) (λ t. (row_at rows t).stable)

  abbrev grounds : Bool
  grounds = not (sign_walk steps replies i p.message).right_is_superseded and not (sign_walk steps replies i p.message).unallowed

  -- where the walk does not count
  pub group-any : ((g : Bool) → Signs g x rows p u) → AdvancesGroup steps replies i x rows p u
  group-any s = record { plays = λ F. (s _).plays _ _ F; long = (s false).long }

  group-by : (g : Bool) → g ≡ not unstable and grounds → Signs g x rows p u → AdvancesGroup steps replies i x rows p u
  unfolding ready_in
  group-by g e s = record {
    plays = λ F.
        let T = view_of x (row_at rows) F in
        let d = (receipt_walk T steps replies i p.message).left_is_superseded in
        let f = (receipt_walk T steps replies i p.message).right_is_superseded in
        s.plays d f F ∙ ap (play base T p d f) (e ∙ ap (λ (c : Bool). c and grounds) (sym (stable-is F)));
    long = s.long;
  }

  module _ (b : Bool) (tested : b ≡ any_unstable (row_at rows) p.message) where
    pub group-unstable : b ≡ true → Signs false x rows p u → AdvancesGroup steps replies i x rows p u
    group-unstable e s = group-by false (ap (λ (c : Bool). not c and grounds) (sym e ∙ tested)) s

    pub group-stable : b ≡ false → (g : Bool)
        → g ≡ not (sign_walk steps replies i p.message).right_is_superseded and not (sign_walk steps replies i p.message).unallowed
        → Signs g x rows p u → AdvancesGroup steps replies i x rows p u
    group-stable e g k s = group-by g (k ∙ ap (λ (c : Bool). not c and grounds) (sym e ∙ tested)) s
