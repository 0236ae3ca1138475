-- The loop over the list: after i turns the register, the rows and the slots are the engine's tables, and its replies are put.
use Prim.Native.Nat.{ℕ, suc, ◌+◌, ◌*◌, ◌/◌, ◌≤◌, ◌<◌}
use mathlib.Core.Bool.{Bool, true, false}
use mathlib.Core.Path.{◌≡◌, ap, sym, ◌∙◌, subst}
use mathlib.Core.List.{List, ◌++◌}
use mathlib.Core.Logic.{⊎_elim}
use native.Mathlib.Numerals.{add-one}
use native.Mathlib.Omega.{arith}
use lib.Dec.{eqb}
use lib.ListN.{length, get_or, set, replicate, length-set, length-replicate, get_or-replicate, get_or-eq_default}
use Rattle.octets.specs.Bytes.{pick, put, Octets}
use Rattle.octets.proofs.Chunks.{sides}
use Rattle.octets.proofs.Put.{put-nil, put-behind, put_whole}
use Rattle.octets.proofs.Tests.{pick-view}
use Rattle.octets.specs.Table.{updated}
use Rattle.octets.proofs.Tables.{updated-same, set-updated}
use Rattle.rules.specs.Layout.{Limits, base, limits_of, in_range}
use Rattle.rules.specs.Status.{unused}
use Rattle.rules.specs.declared.Step.{Step}
use Rattle.rules.specs.declared.Reply.{Reply}
use Rattle.rules.specs.Step.{step_bytes, step_at, pack_reply, receive}
use Rattle.rules.specs.Refusals.{group_bits, sends}
use Rattle.rules.specs.Calls.{fresh_image, steps_in, ran_replies}
use Rattle.rules.proofs.Keep.Run.{step_ok-at}
use Rattle.rules.proofs.Keep.Step.{fitting-base}
use Rattle.rules.proofs.Ranges.{in-range-exactly}
use Rattle.session.proofs.Run.{length-pack_reply}
use Rattle.engine_tables.specs.declared.table.Row.{Row}
use Rattle.engine_tables.specs.declared.table.Slot.{Slot}
use Rattle.engine_tables.specs.Internal.Tables.{Tables, Played, empty_row, empty_slot}
use Rattle.engine_chains.specs.Internal.Walk.{Walk}
use Rattle.engine_chains.specs.Internal.Walk.{Walkable, receipt_back}
use Rattle.engine_replies.specs.Internal.Engine.{receipt_walk, play_step, engine_after, engine_replies}
use Rattle.engine_replies.proofs.Engine.{letter-walks, engine-fresh}
use Rattle.engine_tables.specs.declared.register.Register.{Register}
use Rattle.engine_tables.specs.declared.turns.Operands.{Operands}
use Rattle.engine_tables.specs.declared.turns.Turn.{Turn}
use Rattle.engine_tables.specs.declared.turns.GroupTurn.{GroupTurn}
use Rattle.engine_tables.specs.Internal.Register.{row_at, view_of, fresh_register}
use Rattle.engine_tables.specs.Internal.Places.{most, slot_at, placed}
use Rattle.engine_tables.specs.Internal.Turns.{place_of, subject_of, operands_of, Holds, played_of}
use Rattle.engine_tables.proofs.Placing.{placed_below, placed_past, placed-within}
use Rattle.engine_tables.proofs.Views.{same_at}
use Rattle.engine.specs.Internal.Advance.{play_at, Advances, AdvancesGroup, Unstale, Ahead}
use Rattle.engine.proofs.Ranges.{Ranged, waits-below}
use Rattle.engine.proofs.Steps.{ranged, replies-long, walkable, receipt-same, step_same}

pub record Playing (m : Limits) (steps start : List ℕ) (i : ℕ) (x : Register) (rows : List Row) (slots : List Slot) (replies : List ℕ) : Type 0 where
  pub tables : view_of x (row_at rows) (slot_at slots) ≡ (engine_after base m steps i).tables
  pub so_far : replies ≡ put 0 (engine_after base m steps i).replies start
  pub rows_long : length rows ≡ group_bits
  pub slots-long : length slots ≡ most + 1

-- ---- at first

module _ {A : Type 0} (n : ℕ) (a : A) where
  same-everywhere : (t : ℕ) → get_or (replicate n a) t a ≡ a
  same-everywhere t = ⊎_elim (λ (h : t < n). get_or-replicate n t a a h) (λ (h : n ≤ t). get_or-eq_default (replicate n a) a {n = t} (rw length-replicate h)) (sides t n)

pub playing-none : (a b c : ℕ) (steps start : List ℕ) (rows : List Row) → rows ≡ replicate group_bits (empty_row unused) → (slots : List Slot) → slots ≡ replicate (most + 1) empty_slot
    → Playing (limits_of a b c) steps start 0 (fresh_register a b c) rows slots start
unfolding view_of engine_after
playing-none a b c steps start rows r slots e = record {
  tables = λ i. record {
    limits = limits_of a b c;
    opened = 0;
    next = 0;
    waiting = 0;
    rows = λ t. (ap (λ (l : List Row). row_at l t) r ∙ same-everywhere group_bits (empty_row unused) t) i;
    messages = λ n. (ap (λ (l : List Slot). slot_at l n) e ∙ same-everywhere (most + 1) empty_slot n) i;
  };
  so_far = put-nil 0 start;
  rows_long = ap length r ∙ length-replicate group_bits (empty_row unused);
  slots-long = ap length e ∙ length-replicate (most + 1) empty_slot;
}

-- ---- one turn

module _ (m : Limits) (range : in_range base m ≡ true) (steps : List ℕ) (octets : Octets steps) (start : List ℕ) where
  module _ {i : ℕ} {x : Register} {rows : List Row} {slots : List Slot} {replies : List ℕ} (now : Playing m steps start i x rows slots replies) where
    abbrev R : ℕ → Row
    R = row_at rows

    abbrev F : ℕ → Slot
    F = slot_at slots

    says : Ranged m i (view_of x R F)
    says = subst (Ranged m i) (sym now.tables) (ranged m range steps octets i)

    -- past the next number every slot is empty
    past : (k : ℕ) → x.next ≤ k → F k ≡ empty_slot
    unfolding view_of
    past k h = says.beyond k h

    few : x.transactors ≤ group_bits
    unfolding view_of
    few = subst (λ (m : Limits). m.transactors ≤ group_bits) (sym says.limits) ((in-range-exactly m).0 range).transactors.1

    next-few : x.next ≤ i
    unfolding view_of
    next-few = says.next

    pub can-walk : i < most → step_bytes * i ≤ length steps → step_bytes * i ≤ length replies → Walkable steps replies i
    can-walk h a b = walkable m range steps octets i start replies now.so_far (omega arith) a b

    -- a step by the walks on what is kept is a step of the engine
    engine-step : (p : Step) → p ≡ step_at steps i → play_at steps replies i (view_of x R F) p ≡ play_step base steps (engine_after base m steps i).replies i (engine_after base m steps i).tables
    unfolding play_step
    engine-step p is =
        ap (play_at steps replies i (view_of x R F)) is
        ∙ step_same m range steps octets i start replies now.so_far (view_of x R F)
        ∙ ap (play_step base steps (engine_after base m steps i).replies i) now.tables

    -- its reply put
    module _ (r : Reply) (T : Tables) (plays : record { reply = r; tables = T } ≡ play_step base steps (engine_after base m steps i).replies i (engine_after base m steps i).tables) where
      put-so-far : (replies' : List ℕ) → replies' ≡ put (step_bytes * i) (pack_reply r) replies → step_bytes * i + step_bytes ≤ length start → replies' ≡ put 0 (engine_after base m steps (suc i)).replies start
      unfolding engine_after
      put-so-far replies' e h =
          let z : step_bytes * i ≡ 0 + step_bytes * i = omega arith in
          e ∙ ap (λ (n : ℕ). put n (pack_reply r) replies) z
          ∙ put-behind 0 (step_bytes * i) (engine_after base m steps i).replies (pack_reply r) start replies (replies-long m range steps octets i) (omega (arith, length-pack_reply r)) now.so_far
          ∙ ap (λ (r : Played). put 0 ((engine_after base m steps i).replies ++ pack_reply r.reply) start) plays

      then : T ≡ (engine_after base m steps (suc i)).tables
      unfolding engine_after
      then = ap (λ (r : Played). r.tables) plays

    -- ---- a signing

    pub playing-group : (p : Step) → p ≡ step_at steps i → (u : GroupTurn) → AdvancesGroup steps replies i x rows p u
        → (replies' : List ℕ) → replies' ≡ put (step_bytes * i) (pack_reply u.reply) replies → (x' : Register) → x' ≡ x → (rows' : List Row) → rows' ≡ u.rows → (slots' : List Slot) → slots' ≡ slots
        → step_bytes * i + step_bytes ≤ length start → Playing m steps start (i + 1) x' rows' slots' replies'
    playing-group p is u turned replies' e x' ex rows' er slots' es h =
        let plays = turned.plays F ∙ engine-step p is in
        subst (λ (n : ℕ). Playing m steps start n x' rows' slots' replies') (sym (add-one i)) (record {
          tables = (λ j. view_of (ex j) (row_at (er j)) (slot_at (es j))) ∙ then u.reply (view_of x (row_at u.rows) F) plays;
          so_far = put-so-far u.reply (view_of x (row_at u.rows) F) plays replies' e h;
          rows_long = ap length er ∙ turned.long now.rows_long;
          slots-long = ap length es ∙ now.slots-long;
        })

    -- ---- another step

    addressee-below : (z : Slot) (at : ℕ) → z ≡ slot_at slots at → z.addressee < group_bits
    unfolding view_of
    addressee-below z at held = rw held (says.addressees at)

    pub subject-below : (p : Step) → p ≡ step_at steps i → (z : Slot) (at : ℕ) → z ≡ slot_at slots at → (t : ℕ) → t ≡ subject_of p z → t < group_bits
    unfolding subject_of
    subject-below p is z at held t e = rw e (pick-view (λ n. n < group_bits) (eqb p.kind receive) z.addressee p.transactor (λ k. addressee-below z at held) (λ k. rw is (step_ok-at steps octets i).transactor))

    module _ (below : i < most) (p : Step) (is : p ≡ step_at steps i) (at : ℕ) (place : at ≡ placed (place_of x p)) (z : Slot) (held : z ≡ slot_at slots at)
        (t : ℕ) (subject : t ≡ subject_of p z) (r : Row) (there : r ≡ row_at rows t) where
      abbrev k : ℕ
      k = place_of x p

      -- what the step looks at
      looks : F k ≡ z
      looks = ⊎_elim
          (λ (h : k < most). ap F (sym (placed_below k h)) ∙ ap F (sym place) ∙ sym held)
          (λ (h : most ≤ k). past k (omega (arith, next-few)) ∙ sym (past most (omega (arith, next-few))) ∙ ap F (sym (placed_past k h)) ∙ ap F (sym place) ∙ sym held)
          (sides k most)

      holds : Holds (operands_of x t r z) p R F
      holds = record { row = sym there; slot = looks }

      -- a parcel that waits has a place
      waits : z.missing ≡ false → p.message < most
      unfolding place_of view_of
      waits e = go (sends p.kind) (waits-below says (place_of x p) (ap (λ (z : Slot). z.missing) looks ∙ e))
        where
          go : (c : Bool) → pick c x.next p.message < x.next → p.message < most
          go true h = absurd (omega arith)
          go false h = omega (arith, next-few)

      -- the receipt of a letter
      letter : p.kind ≡ receive → z.letter ≡ true → Unstale (receipt_back steps replies i p.message z.addressee)
      unfolding place_of view_of receipt_walk
      letter k e =
          let own : F p.message ≡ z = ap F (rw k) ∙ looks in
          let n : p.message ≡ (step_at steps i).message = ap (λ (p : Step). p.message) is in
          let same : receipt_back steps replies i p.message z.addressee ≡ receipt_walk (engine_after base m steps i).tables steps (engine_after base m steps i).replies i (step_at steps i).message =
          ap (λ (z : Slot). receipt_back steps replies i p.message z.addressee) (sym own)
          ∙ receipt-same m range steps octets i start replies now.so_far (view_of x R F) p.message
          ∙ λ j. receipt_walk (now.tables j) steps (engine_after base m steps i).replies i (n j) in
          let none = letter-walks base m fitting-base range steps octets i (sym (λ j. ((now.tables j).messages (n j)).letter) ∙ ap (λ (z : Slot). z.letter) own ∙ e) in
          record { left = ap (λ (w : Walk). w.left_is_superseded) same ∙ none.0; right = ap (λ (w : Walk). w.right_is_superseded) same ∙ none.1 }

      pub ahead : step_bytes * i ≤ length steps → step_bytes * i ≤ length replies → Ahead steps replies i (operands_of x t r z) p
      ahead a b = record {
        walkable = can-walk below a b;
        subject = subject;
        within = subject-below p is z at held t subject;
        limits = few;
        waits = waits;
        letter = letter;
      }

      module _ (u : Turn) (turned : Advances steps replies i (operands_of x t r z) p u) where
        abbrev d : Operands
        d = u.operands

        abbrev T : Tables
        T = view_of d.register (updated R d.at d.row) (updated F k d.slot)

        plays : record { reply = u.reply; tables = T } ≡ play_step base steps (engine_after base m steps i).replies i (engine_after base m steps i).tables
        unfolding played_of
        plays = turned.plays R F holds ∙ engine-step p is

        -- past the places nothing is put
        nothing : most ≤ k → d.slot ≡ empty_slot
        unfolding view_of
        nothing h =
            let w : Ranged m (suc i) T = subst (Ranged m (suc i)) (sym (then u.reply T plays)) (ranged m range steps octets (suc i)) in
            sym (updated-same F k d.slot) ∙ w.beyond k (omega (arith, w.next))

        -- the slots after it
        left : slot_at (set slots at d.slot) ≡ updated F k d.slot
        left = set-updated slots at d.slot empty_slot (omega (arith, now.slots-long, placed-within k)) ∙ ⊎_elim
            (λ (h : k < most). ap (λ (n : ℕ). updated F n d.slot) (place ∙ placed_below k h))
            (λ (h : most ≤ k).
            same_at F at d.slot (past at (omega (arith, next-few, placed_past k h)) ∙ sym (nothing h))
            ∙ sym (same_at F k d.slot (past k (omega (arith, next-few)) ∙ sym (nothing h))))
            (sides k most)

        pub playing-more : (replies' : List ℕ) → replies' ≡ put (step_bytes * i) (pack_reply u.reply) replies → (x' : Register) → x' ≡ u.operands.register
            → (rows' : List Row) → rows' ≡ set rows u.operands.at u.operands.row → (slots' : List Slot) → slots' ≡ set slots at u.operands.slot
            → step_bytes * i + step_bytes ≤ length start → Playing m steps start (i + 1) x' rows' slots' replies'
        playing-more replies' e x' ex rows' er slots' es h = subst (λ (n : ℕ). Playing m steps start n x' rows' slots' replies') (sym (add-one i)) (record {
          tables = (λ j. view_of (ex j) ((ap row_at er ∙ set-updated rows d.at d.row (empty_row unused) (omega (arith, now.rows_long, turned.within))) j) ((ap slot_at es ∙ left) j)) ∙ then u.reply T plays;
          so_far = put-so-far u.reply T plays replies' e h;
          rows_long = ap length er ∙ length-set rows d.at d.row ∙ now.rows_long;
          slots-long = ap length es ∙ length-set slots at d.slot ∙ now.slots-long;
        })

  pub playing-all : (n : ℕ) → length start ≡ length steps → step_bytes * (length steps / step_bytes) ≡ length steps → n ≡ steps_in steps
      → {x : Register} {rows : List Row} {slots : List Slot} {replies : List ℕ} → Playing m steps start n x rows slots replies → replies ≡ ran_replies base (fresh_image base m) steps
  unfolding engine_replies
  playing-all n same whole e {x} {rows} {slots} {replies} now =
      now.so_far
      ∙ ap (λ (n : ℕ). put 0 (engine_after base m steps n).replies start) e
      ∙ put_whole (engine_after base m steps (steps_in steps)).replies start (omega (arith, replies-long m range steps octets (steps_in steps)))
      ∙ engine-fresh base m fitting-base range steps octets
