-- What a step makes of one take is again a take of a well-formed state, and what it answers fits a reply.
use Prim.Native.Nat.{ℕ, ◌+◌, ◌≤◌, ◌<◌}
use mathlib.Core.Bool.{true, false, not}
use mathlib.Core.Path.{◌≡◌, refl, sym, ap, ◌∙◌}
use native.Mathlib.Omega.{arith}
use lib.Dec.{eqb}
use borrow.Author.Tests.{eqb-true, eqb-false}
use Rattle.octets.specs.Bytes.{◌and◌}
use Rattle.octets.specs.Numbers.{bound}
use Rattle.octets.proofs.Numbers.{bound-pos}
use Rattle.marks.specs.declared.History.{History}
use Rattle.marks.specs.History.{initial_history, stabilized, rolled_back, checkpointed}
use Rattle.maps.specs.declared.DependenceMap.{DependenceMap}
use Rattle.maps.specs.News.{informed_of}
use Rattle.maps.proofs.News.{informed-empty}
use Rattle.rules.specs.Layout.{Layout, Fitting}
use Rattle.rules.specs.Status.{unused, idle, busy, annihilated}
use Rattle.rules.specs.State.{Transactor, Message, bare, own_history, with_behaviour}
use Rattle.rules.specs.Step.{done, held, dropped, read, write, freeze, finish, fall}
use Rattle.rules.specs.Rules.{Effect, no_dependences, only, join, unchanged, rollback, read_by, write_by, freeze_by, made_idle, finish_by, fall_by, fail_by, local_by, message_superseded, receiver_superseded, receive_by, checkpoint_by, opening, informed_by, taken}
use Rattle.rules.specs.Internal.Well.{DependencesOk, TransactorOk, MessageOk, Known, Live, Alive, TransactorFormed}
use Rattle.octets.proofs.Tests.{pick-view, never}
use Rattle.rules.proofs.Keep.Maps.{HistoryOk, history-initial, history-stabilized, history-rolled_back, history-checkpointed, ok-none, ok-only, ok-join, ok-informed, ok-entry, known-none, known_only, known-join, known-informed, known-entry, known-count, own-only, only-is, own-entry, entry-is, own-kept, kept-is, own-join, join-count, own-history}
use Rattle.rules.proofs.Keep.State.{ok-bare}

-- a take that fits its bytes and is well-formed
pub record TransactorWell (y : Layout) (c opened t : ℕ) (x : Transactor) : Type 0 where
  pub ok : TransactorOk y x
  pub formed : TransactorFormed y c opened t x

-- and what is answered with it
pub record EffectOk (y : Layout) (c opened t : ℕ) (e : Effect) : Type 0 where
  pub outcome : e.outcome < 256
  pub value : e.value < bound 4
  pub transactor : TransactorWell y c opened t e.transactor

-- a take that was opened and has not vanished is live
pub formed-alive : {y : Layout} {c o t : ℕ} {x : Transactor} → TransactorFormed y c o t x → t < o → eqb x.status annihilated ≡ false → Alive y c o t x
formed-alive (TransactorFormed.not_opened h) k e = absurd (omega arith)
formed-alive (TransactorFormed.gone h) k e = never e
formed-alive (TransactorFormed.alive h a) k e = a

-- ---- a take with its own mark alone

module _ (y : Layout) (c o t : ℕ) (below : t < y.transactors) (k : t < o) where
  -- idle, with text v, saved text u, own mark h, creation map c
  pub alone-ok : (v u : ℕ) (h : History) (d : DependenceMap) → v < bound 4 → u < bound 4 → (h.count ≡ 0 → u ≡ 0) → HistoryOk y h → h.count ≤ c → DependencesOk y d → Known c o d
      → TransactorWell y c o t (record { status = idle; value = v; saved = u; state = only y t h; creation = d; behaviour = no_dependences y })
  alone-ok v u h d p q r z b i j = record {
    ok = record {
      status = omega arith;
      value = p;
      saved = q;
      state = ok-only y t below z;
      creation = i;
      behaviour = ok-none y;
    };
    formed = TransactorFormed.alive k (record {
      status = Live.is-idle;
      state = known_only y c o t h k b;
      creation = j;
      behaviour = known-none y c o;
      own = own-only y t below h;
      saved = λ e. r (sym (ap (λ (x : History). x.count) (only-is y t below h)) ∙ e);
      behaves = λ e. refl;
    });
  }

  pub opening-ok : (v : ℕ) (d : DependenceMap) → v < bound 4 → DependencesOk y d → Known c o d → TransactorWell y c o t (opening y t v d)
  opening-ok v d p i j = alone-ok v 0 (initial_history y.places) d p (bound-pos 4) (λ e. refl) (history-initial y) (omega arith) i j

-- ---- news of a freeze

informed-alive : {y : Layout} {c o t : ℕ} {x : Transactor} → t < y.transactors → (b : DependenceMap) → Alive y c o t x → Alive y c o t (informed_by y t x b)
informed-alive {y} {c} {o} {t} {x} below b a = record {
  status = a.status;
  state = known-informed y c o t x.state b a.state;
  creation = known-informed y c o t x.creation b a.creation;
  behaviour = a.behaviour;
  own = own-kept y t below x.state b a.own;
  saved = λ z. a.saved (sym (ap (λ (g : History). g.count) (kept-is y t below x.state b)) ∙ z);
  behaves = a.behaves;
}

-- a take that is not live hears nothing
informed-bare : (y : Layout) (t st : ℕ) (b : DependenceMap) → informed_by y t (bare y st) b ≡ bare y st
informed-bare y t st b =
    let e : informed_of y.transactors t (no_dependences y) b ≡ no_dependences y = informed-empty y.places y.transactors t b in
    λ i. record { status = st; value = 0; saved = 0; state = e i; creation = e i; behaviour = no_dependences y }

-- every take is well-formed after the news
pub informed-well : {y : Layout} {c o t : ℕ} {x : Transactor} → t < y.transactors → (b : DependenceMap) → TransactorOk y x → TransactorFormed y c o t x
    → TransactorOk y (informed_by y t x b) × TransactorFormed y c o t (informed_by y t x b)
informed-well {y} {c} {o} {t} below b p f = (
  record { status = p.status; value = p.value; saved = p.saved; state = ok-informed y t b p.state; creation = ok-informed y t b p.creation; behaviour = p.behaviour },
  go f,
)
  where
    go : {x : Transactor} → TransactorFormed y c o t x → TransactorFormed y c o t (informed_by y t x b)
    go (TransactorFormed.not_opened h) = rw (informed-bare y t unused b) (TransactorFormed.not_opened h)
    go (TransactorFormed.gone h) = rw (informed-bare y t annihilated b) (TransactorFormed.gone h)
    go (TransactorFormed.alive h a) = TransactorFormed.alive h (informed-alive below b a)

-- ---- a live take

module _ {y : Layout} {c o t : ℕ} {x : Transactor} (below : t < y.transactors) (k : t < o) (p : TransactorOk y x) (a : Alive y c o t x) where
  few : (own_history t x).count ≤ c
  few = known-count y c o a.state t

  history : HistoryOk y (own_history t x)
  history = own-history y c o t p below a.own

  unchanged-ok : (r : ℕ) → r < 256 → EffectOk y c o t (unchanged r x)
  unchanged-ok r h = record { outcome = h; value = bound-pos 4; transactor = record { ok = p; formed = TransactorFormed.alive k a } }

  -- it takes another behaviour map, at work
  behaving-ok : (b : DependenceMap) → DependencesOk y b → Known c o b → TransactorWell y c o t (record { status = busy; value = x.value; saved = x.saved; state = x.state; creation = x.creation; behaviour = b })
  behaving-ok b i j = record {
    ok = record { status = omega arith; value = p.value; saved = p.saved; state = p.state; creation = p.creation; behaviour = i };
    formed = TransactorFormed.alive k (record {
      status = Live.is-busy;
      state = a.state;
      creation = a.creation;
      behaviour = j;
      own = a.own;
      saved = a.saved;
      behaves = λ e. absurd (omega arith);
    });
  }

  idled-ok : TransactorWell y c o t (made_idle y x)
  idled-ok = record {
    ok = record { status = omega arith; value = p.value; saved = p.saved; state = p.state; creation = p.creation; behaviour = ok-none y };
    formed = TransactorFormed.alive k (record {
      status = Live.is-idle;
      state = a.state;
      creation = a.creation;
      behaviour = known-none y c o;
      own = a.own;
      saved = a.saved;
      behaves = λ e. refl;
    });
  }

  -- the next life number has room where the take was signed
  pub rollback-ok : (0 < (own_history t x).count → (own_history t x).incarnation + 1 < bound y.width) → EffectOk y c o t (rollback y t x)
  unfolding rollback
  rollback-ok room = pick-view (EffectOk y c o t) (eqb (own_history t x).count 0) _ _
      (λ e. record { outcome = omega arith; value = bound-pos 4; transactor = record { ok = ok-bare y annihilated (omega arith); formed = TransactorFormed.gone k } })
      (λ e.
      let n : (own_history t x).count ≡ 0 → ⊥ = eqb-false (own_history t x).count 0 e in
      record {
        outcome = omega arith;
        value = bound-pos 4;
        transactor = alone-ok y c o t below k x.saved x.saved (rolled_back (own_history t x)) (no_dependences y) p.saved p.saved (λ z. absurd (n z))
            (history-rolled_back history (room (omega arith))) few (ok-none y) (known-none y c o);
      })

  pub checkpoint-ok : Fitting y → c ≤ y.places → (own_history t x).count < c → TransactorWell y c o t (checkpoint_by y t x)
  unfolding checkpoint_by
  checkpoint-ok z b h = alone-ok y c o t below k x.value x.value (checkpointed (own_history t x)) (no_dependences y) p.value p.value (λ e. absurd (omega arith))
      (history-checkpointed history z (omega arith)) (omega arith) (ok-none y) (known-none y c o)

  -- ---- kinds 5 to 10

  read_ok : x.status ≡ busy → EffectOk y c o t (read_by y x)
  unfolding read_by
  read_ok b = record {
    outcome = omega arith;
    value = p.value;
    transactor = rw b (behaving-ok (join y x.state x.behaviour) (ok-join y p.state p.behaviour) (known-join y c o x.state x.behaviour a.state a.behaviour));
  }

  write-ok : (v : ℕ) → v < bound 4 → EffectOk y c o t (write_by y t v x)
  unfolding write_by
  write-ok v h = pick-view (EffectOk y c o t) (own_history t x).stable _ _ (λ e. unchanged-ok held (omega arith)) (λ e. record {
    outcome = omega arith;
    value = bound-pos 4;
    transactor = record {
      ok = record { status = p.status; value = h; saved = p.saved; state = ok-join y p.behaviour p.state; creation = p.creation; behaviour = p.behaviour };
      formed = TransactorFormed.alive k (record {
        status = a.status;
        state = known-join y c o x.behaviour x.state a.behaviour a.state;
        creation = a.creation;
        behaviour = a.behaviour;
        own = own-join y t below x.behaviour x.state a.own;
        saved = λ z. a.saved (join-count y t below x.behaviour x.state a.own z);
        behaves = a.behaves;
      });
    };
  })

  freeze-ok : EffectOk y c o t (freeze_by t x)
  unfolding freeze_by
  freeze-ok =
      let h : History = stabilized (own_history t x) in
      record {
        outcome = omega arith;
        value = bound-pos 4;
        transactor = record {
          ok = record { status = p.status; value = p.value; saved = p.saved; state = ok-entry y p.state t below (history-stabilized history); creation = p.creation; behaviour = p.behaviour };
          formed = TransactorFormed.alive k (record {
            status = a.status;
            state = known-entry y c o x.state t h k few a.state;
            creation = a.creation;
            behaviour = a.behaviour;
            own = own-entry y t below p.state h;
            saved = λ z. a.saved (sym (ap (λ (g : History). g.count) (entry-is y t below p.state h)) ∙ z);
            behaves = a.behaves;
          });
        };
      }

  finish-ok : EffectOk y c o t (finish_by y x)
  unfolding finish_by
  finish-ok = record { outcome = omega arith; value = bound-pos 4; transactor = idled-ok }

  module _ (room : (own_history t x).stable ≡ false → 0 < (own_history t x).count → (own_history t x).incarnation + 1 < bound y.width) where
    fall-ok : EffectOk y c o t (fall_by y t x)
    unfolding fall_by
    fall-ok = pick-view (EffectOk y c o t) (own_history t x).stable _ _ (λ e. record { outcome = omega arith; value = bound-pos 4; transactor = idled-ok }) (λ e. rollback-ok (room e))

    fail-ok : EffectOk y c o t (fail_by y t x)
    unfolding fail_by
    fail-ok = pick-view (EffectOk y c o t) (own_history t x).stable _ _ (λ e. unchanged-ok held (omega arith)) (λ e. rollback-ok (room e))

  -- kind n with text v, at work if it is a read
  pub local-ok : (n v : ℕ) → v < bound 4 → read ≤ n → (n ≡ read → x.status ≡ busy)
      → (finish < n → (own_history t x).stable ≡ false → 0 < (own_history t x).count → (own_history t x).incarnation + 1 < bound y.width) → EffectOk y c o t (local_by y n t v x)
  unfolding local_by
  local-ok n v h r b room =
      pick-view (EffectOk y c o t) (eqb n read) _ _ (λ e. read_ok (b (eqb-true n read e))) λ e5.
      pick-view (EffectOk y c o t) (eqb n write) _ _ (λ e. write-ok v h) λ e6.
      pick-view (EffectOk y c o t) (eqb n freeze) _ _ (λ e. freeze-ok) λ e7.
      pick-view (EffectOk y c o t) (eqb n finish) _ _ (λ e. finish-ok) λ e8.
      let not-read : n ≡ read → ⊥ = eqb-false n read e5 in
      let not-write : n ≡ write → ⊥ = eqb-false n write e6 in
      let not-freeze : n ≡ freeze → ⊥ = eqb-false n freeze e7 in
      let not-finish : n ≡ finish → ⊥ = eqb-false n finish e8 in
      pick-view (EffectOk y c o t) (eqb n fall) _ _ (λ e. fall-ok (room (omega arith))) (λ e. fail-ok (room (omega arith)))

  -- ---- receive

  taken-ok : (b : DependenceMap) → DependencesOk y b → Known c o b → TransactorWell y c o t (taken y t x b)
  taken-ok b i j =
      let w : Alive y c o t (informed_by y t x b) = informed-alive below b a in
      record {
        ok = record { status = omega arith; value = p.value; saved = p.saved; state = ok-informed y t b p.state; creation = ok-informed y t b p.creation; behaviour = i };
        formed = TransactorFormed.alive k (record {
          status = Live.is-busy;
          state = w.state;
          creation = w.creation;
          behaviour = j;
          own = w.own;
          saved = w.saved;
          behaves = λ e. absurd (omega arith);
        });
      }

  pub receive_ok : (m : Message) → MessageOk y m → Known c o m.dependences
      → (not (message_superseded y x m) and receiver_superseded y x m ≡ true → 0 < (own_history t x).count → (own_history t x).incarnation + 1 < bound y.width)
      → EffectOk y c o t (receive_by y t x m)
  unfolding receive_by
  receive_ok m h j room =
      let in-hand : Effect = record { outcome = done; value = m.value; transactor = taken y t x m.dependences } in
      pick-view (EffectOk y c o t) (message_superseded y x m) _ _ (λ e. unchanged-ok dropped (omega arith)) λ e.
      pick-view (EffectOk y c o t) (receiver_superseded y x m) (rollback y t x) in-hand (λ f. rollback-ok (room (rw (e, f)))) λ f.
      record { outcome = omega arith; value = h.value; transactor = taken-ok m.dependences h.dependences j }

  -- ---- new: the mark of take n joins the behaviour map

  pub grown-ok : x.status ≡ busy → (n : ℕ) → n < y.transactors → n < o → TransactorWell y c o t (with_behaviour x (join y (only y n (initial_history y.places)) x.behaviour))
  grown-ok b n i h =
      let d : DependenceMap = only y n (initial_history y.places) in
      rw b (behaving-ok (join y d x.behaviour) (ok-join y (ok-only y n i (history-initial y)) p.behaviour) (known-join y c o d x.behaviour (known_only y c o n (initial_history y.places) h (omega arith)) a.behaviour))
