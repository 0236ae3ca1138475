-- Each setter of the state keeps it well-formed.
use Prim.Native.Nat.{ℕ, ◌+◌, ◌-◌, ◌≤◌, ◌<◌}
use mathlib.Core.Bool.{true}
use mathlib.Core.Path.{◌≡◌, sym, ap, ◌∙◌, subst}
use mathlib.Core.List.{List, [], ◌∷◌, ◌++◌}
use mathlib.Core.Logic.{⊎_elim}
use native.Mathlib.Decide.{ℕ_discrete}
use native.Mathlib.Omega.{arith}
use lib.ListN.{length, take, drop, get_or, set, replicate, length-append, length-drop, length-set, length-replicate, get_or-replicate, get_or-append}
use lib.Seq.{length-take-le, get_or-take, get_or-drop, get_or_at, get_or-append-add, get_or-set_same, get_or-set_other}
use Rattle.octets.specs.Bytes.{tabulate}
use Rattle.octets.specs.Numbers.{bound}
use Rattle.octets.proofs.Chunks.{sides, length-tabulate, get_d_tabulate}
use Rattle.octets.proofs.Numbers.{bound-pos}
use Rattle.maps.specs.declared.DependenceMap.{DependenceMap}
use Rattle.rules.specs.Layout.{Layout, Limits, in_range, Fitting}
use Rattle.rules.specs.Status.{unused}
use Rattle.rules.specs.State.{Transactor, Message, State, bare, no_transactor, no_message, transactor_at, message_at, fresh, with_transactor, with_opened, with_message, without_message}
use Rattle.rules.specs.Rules.{opened, checkpoint_at, checkpoint_group}
use Rattle.rules.specs.Internal.Well.{DependencesOk, TransactorOk, MessageOk, Known, Alive, TransactorFormed, WellFormed}
use Rattle.rules.proofs.Ranges.{allowed_of, allowed-ok}
use Rattle.rules.proofs.Keep.Maps.{ok-none, known_more}

-- ---- a take

pub ok-bare : (y : Layout) (st : ℕ) → st < 4 → TransactorOk y (bare y st)
ok-bare y st h = record {
  status = h;
  value = bound-pos 4;
  saved = bound-pos 4;
  state = ok-none y;
  creation = ok-none y;
  behaviour = ok-none y;
}

-- take t is x, and the others are as they were
transactor-view : (P : ℕ → Transactor → Type 0) (s : State) (t : ℕ) (x : Transactor) → t < length s.transactors
    → P t x → ((i : ℕ) → (i ≡ t → ⊥) → P i (transactor_at s i)) → (i : ℕ) → P i (transactor_at (with_transactor s t x) i)
unfolding with_transactor transactor_at
transactor-view P s t x h p q i = go (ℕ_discrete i t)
  where
    go : Dec (i ≡ t) → P i (get_or (set s.transactors t x) i no_transactor)
    go (yes e) = subst (λ (j : ℕ). P j (get_or (set s.transactors t x) j no_transactor)) (sym e) (rw (get_or-set_same s.transactors t x no_transactor h) p)
    go (no n) = rw (get_or-set_other s.transactors t i x no_transactor n) (q i n)

-- one more opened: what was known is known, and only the next take is another
pub alive-more : (y : Layout) {c o t : ℕ} {x : Transactor} → Alive y c o t x → Alive y c (o + 1) t x
alive-more y {c} {o} {t} {x} a = record {
  status = a.status;
  state = known_more y c o x.state a.state;
  creation = known_more y c o x.creation a.creation;
  behaviour = known_more y c o x.behaviour a.behaviour;
  own = a.own;
  saved = a.saved;
  behaves = a.behaves;
}

formed-more : (y : Layout) {c o t : ℕ} {x : Transactor} → (t ≡ o → ⊥) → TransactorFormed y c o t x → TransactorFormed y c (o + 1) t x
formed-more y n (TransactorFormed.not_opened h) = TransactorFormed.not_opened (omega arith)
formed-more y n (TransactorFormed.gone h) = TransactorFormed.gone (omega arith)
formed-more y n (TransactorFormed.alive h a) = TransactorFormed.alive (omega arith) (alive-more y a)

-- ---- parcels

abbrev pub at : List Message → ℕ → Message
at ms k = get_or ms k no_message

-- one more at the end
module _ (ms : List Message) (x : Message) where
  longer : length (ms ++ (x ∷ [])) ≡ length ms + 1
  longer = length-append ms (x ∷ [])

  more-before : (k : ℕ) → k < length ms → at (ms ++ (x ∷ [])) k ≡ at ms k
  more-before k h = get_or-append ms (x ∷ []) no_message k h

  more-last : (k : ℕ) → k ≡ length ms → at (ms ++ (x ∷ [])) k ≡ x
  more-last k e = get_or_at ms x [] no_message k (sym e)

  pub more-all : (P : Message → Type 0) → ((k : ℕ) → k < length ms → P (at ms k)) → P x → (k : ℕ) → k < length (ms ++ (x ∷ [])) → P (at (ms ++ (x ∷ [])) k)
  more-all P f p k h = ⊎_elim
      (λ (q : k < length ms). subst P (sym (more-before k q)) (f k q))
      (λ (q : length ms ≤ k). subst P (sym (more-last k (omega (arith, longer)))) p)
      (sides k (length ms))

  -- rising numbers rise on to one above them all
  more-order : ((k : ℕ) → k + 1 < length ms → (at ms k).number < (at ms (k + 1)).number) → ((k : ℕ) → k < length ms → (at ms k).number < x.number)
      → (k : ℕ) → k + 1 < length (ms ++ (x ∷ [])) → (at (ms ++ (x ∷ [])) k).number < (at (ms ++ (x ∷ [])) (k + 1)).number
  more-order f g k h = ⊎_elim
      (λ (q : k + 1 < length ms). rw (more-before k (omega arith), more-before (k + 1) q) (f k q))
      (λ (q : length ms ≤ k + 1). rw (more-before k (omega (arith, longer)), more-last (k + 1) (omega (arith, longer))) (g k (omega (arith, longer))))
      (sides (k + 1) (length ms))

-- without place k
module _ (ms : List Message) (k : ℕ) (below : k < length ms) where
  abbrev pub rest : List Message
  rest = take k ms ++ drop (k + 1) ms

  heads : length (take k ms) ≡ k
  heads = length-take-le k ms (omega arith)

  pub shorter : length rest + 1 ≡ length ms
  shorter = rw (length-append, heads, length-drop) (omega arith)

  pub rest-before : (i : ℕ) → i < k → at rest i ≡ at ms i
  rest-before i h = get_or-append (take k ms) (drop (k + 1) ms) no_message i (omega (arith, heads)) ∙ get_or-take k ms i no_message h

  pub rest-after : (i : ℕ) → k ≤ i → at rest i ≡ at ms (i + 1)
  rest-after i h =
      let e : length (take k ms) + (i - k) ≡ i = omega (arith, heads) in
      let f : k + 1 + (i - k) ≡ i + 1 = omega arith in
      subst (λ (x : ℕ). at rest x ≡ at ms (i + 1)) e
      (get_or-append-add (take k ms) (drop (k + 1) ms) (i - k) no_message ∙ get_or-drop (k + 1) ms (i - k) no_message ∙ ap (at ms) f)

  rest_all : (P : Message → Type 0) → ((i : ℕ) → i < length ms → P (at ms i)) → (i : ℕ) → i < length rest → P (at rest i)
  rest_all P f i h = ⊎_elim
      (λ (q : i < k). subst P (sym (rest-before i q)) (f i (omega arith)))
      (λ (q : k ≤ i). subst P (sym (rest-after i q)) (f (i + 1) (omega (arith, shorter))))
      (sides i k)

  -- rising numbers rise over the gap
  rest-order : ((i : ℕ) → i + 1 < length ms → (at ms i).number < (at ms (i + 1)).number)
      → (i : ℕ) → i + 1 < length rest → (at rest i).number < (at rest (i + 1)).number
  rest-order f i h = ⊎_elim
      (λ (q : i < k). ⊎_elim
      (λ (r : i + 1 < k). rw (rest-before i q, rest-before (i + 1) r) (f i (omega arith)))
      (λ (r : k ≤ i + 1). rw (rest-before i q, rest-after (i + 1) r) (omega (arith, f i (omega arith), f (i + 1) (omega (arith, shorter)))))
      (sides (i + 1) k))
      (λ (q : k ≤ i). rw (rest-after i q, rest-after (i + 1) (omega arith)) (f (i + 1) (omega (arith, shorter))))
      (sides i k)

-- ---- the setters

module _ {y : Layout} {s : State} (w : WellFormed y s) where
  pub well-with_transactor : (t : ℕ) {x : Transactor} → t < y.transactors → TransactorOk y x → TransactorFormed y s.limits.checkpoints s.opened t x → WellFormed y (with_transactor s t x)
  unfolding with_transactor message_at
  well-with_transactor t {x} h o f =
      let g : t < length s.transactors = omega (arith, w.packable.many) in
      record {
        packable = record {
          limits = w.packable.limits;
          opened = w.packable.opened;
          next = w.packable.next;
          many = length-set s.transactors t x ∙ w.packable.many;
          few = w.packable.few;
          transactors = transactor-view (λ i z. i < y.transactors → TransactorOk y z) s t x g (λ k. o) (λ i n. w.packable.transactors i);
          messages = w.packable.messages;
        };
        limits = w.limits;
        opened = w.opened;
        waiting = w.waiting;
        transactors = transactor-view (λ i z. i < y.transactors → TransactorFormed y s.limits.checkpoints s.opened i z) s t x g (λ k. f) (λ i n. w.transactors i);
        known = w.known;
        order = w.order;
        numbers = w.numbers;
        addressees = w.addressees;
      }

  pub well-opened : {x : Transactor} → Fitting y → s.opened < s.limits.transactors → TransactorOk y x → TransactorFormed y s.limits.checkpoints (s.opened + 1) s.opened x → WellFormed y (opened s x)
  unfolding opened with_opened with_transactor message_at transactor_at
  well-opened {x} z h o f =
      let t : ℕ = s.opened in
      let g : t < length s.transactors = omega (arith, w.packable.many, w.limits.transactors-high) in
      record {
        packable = record {
          limits = w.packable.limits;
          opened = omega (arith, z.transactors, w.limits.transactors-high);
          next = w.packable.next;
          many = length-set s.transactors t x ∙ w.packable.many;
          few = w.packable.few;
          transactors = transactor-view (λ i z. i < y.transactors → TransactorOk y z) s t x g (λ k. o) (λ i n. w.packable.transactors i);
          messages = w.packable.messages;
        };
        limits = w.limits;
        opened = omega arith;
        waiting = w.waiting;
        transactors = transactor-view (λ i z. i < y.transactors → TransactorFormed y s.limits.checkpoints (t + 1) i z) s t x g (λ k. f) (λ i n k. formed-more y n (w.transactors i k));
        known = λ k p. known_more y s.limits.checkpoints t (message_at s k).dependences (w.known k p);
        order = w.order;
        numbers = w.numbers;
        addressees = λ k p. omega (arith, w.addressees k p);
      }

  pub well-with_message : Fitting y → (to v : ℕ) {m : DependenceMap} → to < s.opened → length s.messages < s.limits.messages → s.next + 1 < bound 2 → v < bound 4
      → DependencesOk y m → Known s.limits.checkpoints s.opened m → WellFormed y (with_message s to v m)
  unfolding with_message transactor_at message_at
  well-with_message z to v {m} h room fits g o f =
      let x : Message = record { addressee = to; number = s.next; value = v; dependences = m } in
      record {
        packable = record {
          limits = w.packable.limits;
          opened = w.packable.opened;
          next = fits;
          many = w.packable.many;
          few = rw (longer s.messages x) (omega (arith, w.limits.messages-high));
          transactors = w.packable.transactors;
          messages = more-all s.messages x (MessageOk y) w.packable.messages
              (record { addressee = omega (arith, w.opened, w.limits.transactors-high, z.transactors); number = w.packable.next; value = g; dependences = o });
        };
        limits = w.limits;
        opened = w.opened;
        waiting = rw (longer s.messages x) (omega arith);
        transactors = w.transactors;
        known = more-all s.messages x (λ z. Known s.limits.checkpoints s.opened z.dependences) w.known f;
        order = more-order s.messages x w.order w.numbers;
        numbers = more-all s.messages x (λ z. z.number < s.next + 1) (λ k p. omega (arith, w.numbers k p)) (omega arith);
        addressees = more-all s.messages x (λ z. z.addressee < s.opened) w.addressees h;
      }

  pub well-without_message : (k : ℕ) → k < length s.messages → WellFormed y (without_message s k)
  unfolding without_message transactor_at message_at
  well-without_message k h = record {
    packable = record {
      limits = w.packable.limits;
      opened = w.packable.opened;
      next = w.packable.next;
      many = w.packable.many;
      few = omega (arith, w.packable.few, shorter s.messages k h);
      transactors = w.packable.transactors;
      messages = rest_all s.messages k h (MessageOk y) w.packable.messages;
    };
    limits = w.limits;
    opened = w.opened;
    waiting = omega (arith, w.waiting, shorter s.messages k h);
    transactors = w.transactors;
    known = rest_all s.messages k h (λ z. Known s.limits.checkpoints s.opened z.dependences) w.known;
    order = rest-order s.messages k h w.order;
    numbers = rest_all s.messages k h (λ z. z.number < s.next) w.numbers;
    addressees = rest_all s.messages k h (λ z. z.addressee < s.opened) w.addressees;
  }

  pub well-checkpoint_group : (v : ℕ) → ((t : ℕ) → t < y.transactors → TransactorOk y (checkpoint_at y s v t)) → ((t : ℕ) → t < y.transactors → TransactorFormed y s.limits.checkpoints s.opened t (checkpoint_at y s v t))
      → WellFormed y (checkpoint_group y s v)
  unfolding checkpoint_group transactor_at message_at
  well-checkpoint_group v o f =
      let is : (t : ℕ) → t < y.transactors → get_or (tabulate y.transactors (checkpoint_at y s v)) t no_transactor ≡ checkpoint_at y s v t =
      λ t h. get_d_tabulate (checkpoint_at y s v) y.transactors t no_transactor h in
      record {
        packable = record {
          limits = w.packable.limits;
          opened = w.packable.opened;
          next = w.packable.next;
          many = length-tabulate (checkpoint_at y s v) y.transactors;
          few = w.packable.few;
          transactors = λ t h. subst (TransactorOk y) (sym (is t h)) (o t h);
          messages = w.packable.messages;
        };
        limits = w.limits;
        opened = w.opened;
        waiting = w.waiting;
        transactors = λ t h. subst (TransactorFormed y s.limits.checkpoints s.opened t) (sym (is t h)) (f t h);
        known = w.known;
        order = w.order;
        numbers = w.numbers;
        addressees = w.addressees;
      }

-- ---- nothing opened

pub well-fresh : {y : Layout} → Fitting y → (m : Limits) → in_range y m ≡ true → WellFormed y (fresh y m)
unfolding fresh transactor_at
well-fresh {y} z m r =
    let l = allowed_of r in
    let is : (t : ℕ) → t < y.transactors → get_or (replicate y.transactors (bare y unused)) t no_transactor ≡ bare y unused =
    λ t h. get_or-replicate y.transactors t (bare y unused) no_transactor h in
    record {
      packable = record {
        limits = allowed-ok z l;
        opened = omega arith;
        next = bound-pos 2;
        many = length-replicate y.transactors (bare y unused);
        few = omega arith;
        transactors = λ t h. subst (TransactorOk y) (sym (is t h)) (ok-bare y unused (omega arith));
        messages = λ k h. absurd (omega arith);
      };
      limits = l;
      opened = omega arith;
      waiting = omega arith;
      transactors = λ t h. subst (TransactorFormed y m.checkpoints 0 t) (sym (is t h)) (TransactorFormed.not_opened (omega arith));
      known = λ k h. absurd (omega arith);
      order = λ k h. absurd (omega arith);
      numbers = λ k h. absurd (omega arith);
      addressees = λ k h. absurd (omega arith);
    }
