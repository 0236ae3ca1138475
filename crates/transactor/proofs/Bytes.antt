-- One take's bytes: what stores make of them, and the rules on a take by case, in the order of the code's tests.
use Prim.Native.Nat.{ℕ, ◌+◌, ◌*◌, ◌≤◌, ◌<◌}
use mathlib.Core.Bool.{Bool, true, false, not}
use mathlib.Core.Path.{◌≡◌, refl, sym, ap, ◌∙◌}
use mathlib.Core.Logic.{◌⊎◌, inl, inr, ⊎_elim}
use mathlib.Core.List.{List, ◌++◌}
use native.Mathlib.Nat.{zero-add}
use native.Mathlib.Omega.{arith}
use borrow.Author.Tests.{lt-ltb, le-leb, lt-leb, eq-eqb, ne_eqb}
use lib.Dec.{eqb, ltb, leb}
use lib.ListN.{length, set, length-append, length-set}
use Rattle.octets.specs.Bytes.{pick, ◌and◌, ◌or◌, put, part, zeros}
use Rattle.octets.specs.Numbers.{be, of_be}
use Rattle.octets.proofs.Put.{put-behind, put_whole, part-put-before, part-put-after}
use Rattle.octets.proofs.Numbers.{length-be, put-be-one}
use Rattle.octets.proofs.Zero.{length-zeros}
use Rattle.marks.specs.declared.History.{History}
use Rattle.marks.specs.History.{rolled_back}
use Rattle.marks.specs.Packed.{pack_history}
use Rattle.maps.specs.declared.DependenceMap.{DependenceMap}
use Rattle.maps.specs.Map.{with_entry, Sized}
use Rattle.maps.specs.Packed.{unpack_map}
use Rattle.maps.specs.Internal.Fitting.{Exact}
use Rattle.maps.proofs.Packed.{length-pack_map, pack-empty_map, bounded_at, bounded-unpack}
use Rattle.rules.specs.Layout.{Layout, largest, base, history_bytes, map_bytes, value_at, saved_at, state_at, creation_at, behaviour_at, transactor_bytes}
use Rattle.rules.specs.declared.outcomes.Outcome.{Outcome}
use Rattle.rules.specs.declared.kinds.Kind.{Kind}
use Rattle.rules.specs.declared.kinds.Kind.TheVariants.{Root, Letter, Receive, New, Send, Read, Write, Freeze, Finish, Fall, Fail, Lose, Sign}
use Rattle.rules.specs.declared.refusals.Refusal.{Refusal}
use Rattle.rules.specs.Numbers.{kind_number, outcome_number, refusal_number}
use Rattle.rules.specs.Step.{done, held, fallen_back, vanished, read, write, freeze, finish, fall, fail}
use Rattle.rules.specs.Status.{unused, annihilated}
use Rattle.rules.specs.State.{Transactor, bare, own_history, with_status, with_value, with_state, with_behaviour}
use Rattle.rules.specs.Rules.{Effect, no_dependences, join, unchanged, renewed, rollback, write_by, made_idle, finish_by, fall_by, fail_by, local_by}
use Rattle.rules.specs.Pack.{pack_dependences, pack_transactor, unpack_dependences, unpack_transactor}
use Rattle.transactor.specs.declared.Acted.{Acted}
use Rattle.transactor.specs.Internal.Effects.{Acts, rollback_or28, rollback_unless_stable, act_by}
use Rattle.rules.specs.Internal.Guards.{is_last_incarnation, local_refusal}
use Rattle.rules.proofs.Pack.Sizes.{length-pack_transactor}
use Rattle.rules.proofs.Pack.Stores.{put-status, put-own, put-behaviour}
use Rattle.rules.proofs.Pack.Fresh.{pack-unused}
use Rattle.rules.proofs.Pack.RoundTrip.{map-part}
use Rattle.octets.proofs.Tests.{or-of}

-- ---- stores

-- l' is l with p written over its first bytes, n of them
record Filled (l l' p : List ℕ) (n : ℕ) : Type 0 where
  is : l' ≡ put 0 p l
  long : length p ≡ n

fill : {l l' l'' p : List ℕ} {n : ℕ} (q : List ℕ) (m : ℕ) → Filled l l' p n → length q ≡ m → n + m ≤ length l → l'' ≡ put n q l' → Filled l l'' (p ++ q) (n + m)
fill {l} {l'} {l''} {p} {n} q m f k h e = record {
  is = e ∙ ap (λ (i : ℕ). put i q l') (sym (zero-add n)) ∙ put-behind 0 n p q l l' f.long (omega arith) f.is;
  long = rw (length-append, f.long, k);
}

module _ (y : Layout) where
  -- one field of packed bytes
  pub stored : (x x' : Transactor) (at : ℕ) (bs : List ℕ) {b b' : List ℕ} → put at bs (pack_transactor y x) ≡ pack_transactor y x' → b ≡ pack_transactor y x → b' ≡ put at bs b
      → b' ≡ pack_transactor y x'
  stored x x' at bs p e f = f ∙ ap (put at bs) e ∙ p

  -- one map of packed bytes packs to the bytes that it stands in
  pub map-exact : (x : Transactor) (at : ℕ) (m : DependenceMap) {b : List ℕ} → at + map_bytes y ≤ transactor_bytes y → put at (pack_dependences y m) (pack_transactor y x) ≡ pack_transactor y x
      → b ≡ pack_transactor y x → unpack_dependences y at b ≡ m → Exact y.width y.places y.transactors b at
  unfolding Exact
  map-exact x at m h same e q =
      ap (pack_dependences y) q
      ∙ sym (ap (part at (map_bytes y)) e ∙ map-part y at m (pack_transactor y x) (rw length-pack_transactor h) same)

  -- one history of the state map
  pub history-stored : (x : Transactor) (t : ℕ) {h h' : History} {b b' : List ℕ} → Sized y.transactors x.state → t < y.transactors → b ≡ pack_transactor y x → h ≡ h'
      → b' ≡ put (state_at + history_bytes y * t) (pack_history y.width y.places h) b → b' ≡ pack_transactor y (with_state x (with_entry x.state t h'))
  history-stored x t {h} {h'} {b} s below e q r =
      let at : ℕ = state_at + history_bytes y * t in
      stored x (with_state x (with_entry x.state t h')) at (pack_history y.width y.places h') (put-own y x t h' s below) e
      (r ∙ ap (λ (g : History). put at (pack_history y.width y.places g) b) q)

  -- the behaviour map emptied
  pub behaviour-cleared : (x : Transactor) {b b' : List ℕ} → b ≡ pack_transactor y x → b' ≡ put (behaviour_at y) (zeros (map_bytes y)) b → b' ≡ pack_transactor y (with_behaviour x (no_dependences y))
  behaviour-cleared x {b} e f = stored x (with_behaviour x (no_dependences y)) (behaviour_at y) (pack_dependences y (no_dependences y)) (put-behaviour y x (no_dependences y)) e
      (f ∙ ap (λ (z : List ℕ). put (behaviour_at y) z b) (sym (pack-empty_map y.width y.places y.transactors)))

  -- all of it
  pub cleared : (b : List ℕ) {b' : List ℕ} → length b ≡ transactor_bytes y → b' ≡ put 0 (zeros (transactor_bytes y)) b → b' ≡ pack_transactor y (bare y unused)
  cleared b n e = e ∙ put_whole (zeros (transactor_bytes y)) b (length-zeros (transactor_bytes y) ∙ sym n) ∙ sym (pack-unused y)

  pub cleared-long : (v : ℕ) (b : List ℕ) {b' : List ℕ} → length b ≡ transactor_bytes y → b' ≡ put 0 (zeros (transactor_bytes y)) b → length (set b' 0 v) ≡ transactor_bytes y
  cleared-long v b {b'} n e = length-set b' 0 v ∙ ap length (cleared b n e) ∙ length-pack_transactor y (bare y unused)

  -- the text, after a store behind it
  pub value-behind : (m : DependenceMap) {v : ℕ} (b : List ℕ) {b' : List ℕ} → length b ≡ transactor_bytes y → b' ≡ put (behaviour_at y) (pack_dependences y m) b → v ≡ of_be 4 (part value_at 4 b')
      → v ≡ of_be 4 (part value_at 4 b)
  value-behind m b n e f =
      let w : length (pack_dependences y m) ≡ map_bytes y = length-pack_map y.width y.places y.transactors m in
      f ∙ ap (λ (l : List ℕ). of_be 4 (part value_at 4 l)) e ∙ ap (of_be 4) (part-put-before (behaviour_at y) (pack_dependences y m) b (omega arith) value_at 4 (omega arith))

  -- a map, after a store of the text before it
  pub map-behind : (v : ℕ) (b : List ℕ) {b' : List ℕ} → length b ≡ transactor_bytes y → b' ≡ put value_at (be 4 v) b → (at : ℕ) → saved_at ≤ at
      → unpack_dependences y at b' ≡ unpack_dependences y at b
  map-behind v b n e at h =
      let w : length (be 4 v) ≡ 4 = length-be 4 v in
      ap (unpack_dependences y at) e
      ∙ ap (unpack_map y.width y.places y.transactors) (part-put-after value_at (be 4 v) b (omega arith) at (map_bytes y) (omega arith))

  -- the status of packed bytes
  pub status-stored : (x : Transactor) (st : ℕ) {b : List ℕ} → b ≡ pack_transactor y x → st < 4 → set b 0 (64 * st) ≡ pack_transactor y (with_status x st)
  status-stored x st {b} e h =
      let n : length b ≡ transactor_bytes y = ap length e ∙ length-pack_transactor y x in
      stored x (with_status x st) 0 (be 1 (64 * st)) (put-status y x st) e (sym (put-be-one 0 (64 * st) b (omega arith) (omega arith)))

  -- every field, over whatever stood there
  module _ (b : List ℕ) (whole : length b ≡ transactor_bytes y) (st : ℕ) (low : st < 4) (none : DependenceMap) (is : none ≡ no_dependences y) where
    pub stripped : (b1 b2 b3 b4 b5 : List ℕ) → b1 ≡ put value_at (be 4 0) (set b 0 (64 * st)) → b2 ≡ put saved_at (be 4 0) b1
        → b3 ≡ put state_at (pack_dependences y none) b2 → b4 ≡ put (creation_at y) (pack_dependences y none) b3 → b5 ≡ put (behaviour_at y) (pack_dependences y none) b4
        → b5 ≡ pack_transactor y (bare y st)
    unfolding pack_transactor
    stripped b1 b2 b3 b4 b5 e1 e2 e3 e4 e5 =
        let p : List ℕ = pack_dependences y none in
        let w : length p ≡ map_bytes y = length-pack_map y.width y.places y.transactors none in
        let s0 : Filled b (set b 0 (64 * st)) (be 1 (64 * st)) 1 = record { is = sym (put-be-one 0 (64 * st) b (omega arith) (omega arith)); long = length-be 1 (64 * st) } in
        let s1 = fill (be 4 0) 4 s0 (length-be 4 0) (omega arith) e1 in
        let s2 = fill (be 4 0) 4 s1 (length-be 4 0) (omega arith) e2 in
        let s3 = fill p (map_bytes y) s2 w (omega arith) e3 in
        let s4 = fill p (map_bytes y) s3 w (omega arith) e4 in
        let s5 = fill p (map_bytes y) s4 w (omega arith) e5 in
        s5.is ∙ put_whole _ b (s5.long ∙ sym whole) ∙ ap (λ (m : DependenceMap). pack_transactor y (record { status = st; value = 0; saved = 0; state = m; creation = m; behaviour = m })) is

-- ---- counts within their lists

pub own-bounded : (t : ℕ) (b : List ℕ) {h : History} → h ≡ own_history t (unpack_transactor base b) → h.count ≤ base.places
unfolding unpack_transactor
own-bounded t b e =
    let m : DependenceMap = unpack_dependences base state_at b in
    rw e (bounded_at base.places m (bounded-unpack base.width base.places base.transactors (part state_at (map_bytes base) b) (omega arith)) t)

-- ---- what a function on the bytes answers

pub acts-as : {e e' : Effect} {o v : ℕ} {b : List ℕ} → e ≡ e' → Acts e' o v b → Acts e o v b
acts-as q a = rw q a

pub acted : {e e' : Effect} {o v : ℕ} {b : List ℕ} → e ≡ e' → (o ≡ e'.outcome) × (v ≡ e'.value) → b ≡ pack_transactor base e'.transactor → Acts e o v b
acted q r s = acts-as q (record { outcome = r.0; value = r.1; bytes = s })

-- by an outcome alone
pub acted-alone : {e e' : Effect} {a : Acted Outcome} {o : Outcome} {b : List ℕ} → e ≡ e' → (a.outcome ≡ o) × (a.value ≡ 0) → e'.outcome ≡ outcome_number o → e'.value ≡ 0
    → b ≡ pack_transactor base e'.transactor → Acts e (outcome_number a.outcome) a.value b
acted-alone q r n v s = acted q (ap outcome_number r.0 ∙ sym n, r.1 ∙ sym v) s

-- ---- the rules by case, h being the own mark

module _ (y : Layout) (t : ℕ) (x : Transactor) {h : History} (own : h ≡ own_history t x) where
  -- never signed
  pub rollback-uncheckpointed : h.count ≡ 0 → rollback_or28 y t x ≡ record { outcome = vanished; value = 0; transactor = bare y annihilated }
  unfolding rollback_or28 is_last_incarnation rollback
  rollback-uncheckpointed z =
      let n : (own_history t x).count ≡ 0 = ap (λ (g : History). g.count) (sym own) ∙ z in
      rw n

  module _ (checkpointed : h.count ≡ 0 → ⊥) where
    positive : ltb 0 (own_history t x).count ≡ true
    positive = rw (← own) (lt-ltb 0 h.count (omega arith))

    counted : eqb (own_history t x).count 0 ≡ false
    counted = rw (← own) (ne_eqb h.count 0 checkpointed)

    -- at the largest life number
    pub rollback-last : h.incarnation ≡ largest y → rollback_or28 y t x ≡ unchanged 28 x
    unfolding rollback_or28 is_last_incarnation
    rollback-last e =
        let l : leb (largest y) (own_history t x).incarnation ≡ true = rw (← own) (le-leb (largest y) h.incarnation (omega arith)) in
        rw (positive, l)

    -- the next life, g
    pub rollback-next : h.incarnation < largest y → {g : History} {v : ℕ} → g ≡ rolled_back h → v ≡ x.saved
        → rollback_or28 y t x ≡ record { outcome = fallen_back; value = 0; transactor = renewed y t g v v }
    unfolding rollback_or28 is_last_incarnation rollback
    rollback-next k e f =
        let l : leb (largest y) (own_history t x).incarnation ≡ false = rw (← own) (lt-leb (largest y) h.incarnation k) in
        rw (positive, l, counted, e, f, own)

  own-stable : (z : Bool) → h.stable ≡ z → (own_history t x).stable ≡ z
  own-stable z e = ap (λ (g : History). g.stable) (sym own) ∙ e

  module _ (k : ℕ) where
    pub unstable-rolls : h.stable ≡ false → rollback_unless_stable y k t x ≡ rollback_or28 y t x
    unfolding rollback_unless_stable
    unstable-rolls e = rw (own-stable false e)

    module _ (e : h.stable ≡ true) where
      pub unstable-fall : k ≡ fall → rollback_unless_stable y k t x ≡ unchanged held (finish_by y x).transactor
      unfolding rollback_unless_stable finish_by
      unstable-fall f = rw (own-stable true e, eq-eqb k fall f)

      pub unstable-fail : (k ≡ fall → ⊥) → rollback_unless_stable y k t x ≡ unchanged held x
      unfolding rollback_unless_stable
      unstable-fail n = rw (own-stable true e, ne_eqb k fall n)

module _ (y : Layout) (t : ℕ) (x : Transactor) {h : History} (own : h ≡ own_history t x) (v : ℕ) where
  pub write-stable : h.stable ≡ true → write_by y t v x ≡ unchanged held x
  unfolding write_by
  write-stable e = rw (← own, e)

  pub write-unstable : h.stable ≡ false → write_by y t v x ≡ unchanged done (with_state (with_value x v) (join y x.behaviour x.state))
  unfolding write_by
  write-unstable e = rw (← own, e)

-- ---- kinds 5 to 10

-- the last two
pub late : (k : Kind) → read ≤ kind_number k → kind_number k ≤ fail → (k ≡ Read → ⊥) → (k ≡ Write → ⊥) → (k ≡ Freeze → ⊥) → (k ≡ Finish → ⊥)
    → (kind_number k ≡ fall) ⊎ (kind_number k ≡ fail)
late Root low high r w z d = absurd (omega arith)
late Letter low high r w z d = absurd (omega arith)
late Receive low high r w z d = absurd (omega arith)
late New low high r w z d = absurd (omega arith)
late Send low high r w z d = absurd (omega arith)
late Read low high r w z d = absurd (r refl)
late Write low high r w z d = absurd (w refl)
late Freeze low high r w z d = absurd (z refl)
late Finish low high r w z d = absurd (d refl)
late Fall low high r w z d = inl refl
late Fail low high r w z d = inr refl
late Lose low high r w z d = absurd (omega arith)
late Sign low high r w z d = absurd (omega arith)

-- the test of the last life may stand before the test of the frozen flag
swap : {A : Type 0} (s l : Bool) (a b c : A) → pick (not s and l) b (pick s a c) ≡ pick s a (pick l b c)
swap true l a b c = refl
swap false l a b c = refl

module _ (y : Layout) (k t v : ℕ) (x : Transactor) where
  -- r is the refusal that the status decides
  pub act-refused : (r : Refusal) → refusal_number r ≡ local_refusal k x.status → act_by y k t v x ≡ unchanged (refusal_number r) x
  unfolding act_by
  act-refused r asked = rw (← asked, ne_eqb (refusal_number r) 0 (λ e. grind arith))

  module _ (none : 0 ≡ local_refusal k x.status) where
    -- kind 5 to 8
    pub act-early : {n : ℕ} {e : Effect} → k ≡ n → n < fall → local_by y n t v x ≡ e → act_by y k t v x ≡ e
    unfolding act_by
    act-early p h q =
        let a : act_by y k t v x ≡ local_by y k t v x = rw (← none, ne_eqb k fall (omega arith), ne_eqb k fail (omega arith)) in
        a ∙ ap (λ (i : ℕ). local_by y i t v x) p ∙ q

    -- the last two
    pub act-late : (k ≡ fall) ⊎ (k ≡ fail) → act_by y k t v x ≡ rollback_unless_stable y k t x
    unfolding act_by local_by fall_by fail_by rollback_unless_stable rollback_or28
    act-late last =
        let test : eqb k fall or eqb k fail ≡ true = or-of (eqb k fall) (eqb k fail) (⊎_elim (λ e. inl (eq-eqb k fall e)) (λ e. inr (eq-eqb k fail e)) last) in
        let low : fall ≤ k = ⊎_elim (λ e. omega arith) (λ e. omega arith) last in
        rw (← none, test, ne_eqb k read (omega arith), ne_eqb k write (omega arith), ne_eqb k freeze (omega arith), ne_eqb k finish (omega arith)) (go (eqb k fall))
      where
        go : (z : Bool) → pick (not (own_history t x).stable and is_last_incarnation y t x) (unchanged 28 x) (pick z (fall_by y t x) (fail_by y t x))
            ≡ pick (own_history t x).stable (unchanged held (pick z (made_idle y x) x)) (pick (is_last_incarnation y t x) (unchanged 28 x) (rollback y t x))
        go true = swap (own_history t x).stable (is_last_incarnation y t x) _ _ _
        go false = swap (own_history t x).stable (is_last_incarnation y t x) _ _ _
