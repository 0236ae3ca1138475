-- Gathering the steps that are kept, from the last to the first.
use Prim.Native.Nat.{ℕ, suc, ◌+◌, ◌-◌, ◌*◌, ◌%◌, ◌≤◌, ◌<◌}
use mathlib.Core.Bool.{Bool, true, false, not}
use mathlib.Core.Path.{◌≡◌, refl, sym, ap, subst, ◌∙◌}
use mathlib.Core.List.{List, [], ◌++◌, append_assoc, append-nil}
use native.Mathlib.Nat.{zero-add, add-zero, sub-zero}
use native.Mathlib.Omega.{arith}
use lib.ListN.{length, get_or, take, drop, length-append, length-drop}
use lib.Seq.{length-take-le, take-add}
use lib.Dec.{eqb}
use Rattle.octets.specs.Bytes.{pick, ◌and◌, put, part, zeros}
use Rattle.octets.proofs.Put.{put-def, part-def, length_part, length-put, part-put-before, get_d_part, part-put, put-nil, put_whole, put-mid}
use Rattle.octets.proofs.Zero.{length-zeros}
use Rattle.rules.specs.Layout.{base}
use Rattle.rules.specs.declared.Step.{Step}
use Rattle.rules.specs.Step.{step_bytes, unpack_step, step_at, read}
use Rattle.rules.specs.Calls.{steps_in}
use Rattle.thin.specs.Thin.{not_refused, touches, empties, emptied_from, unused, kept, chosen, counted}
use Rattle.thin.proofs.Chosen.{chosen_none, chosen-suc, counted_none, counted-suc, counted-few, length-chosen}
use Rattle.thin.specs.Internal.Gather.{Says, with, kept_by, outcome_in, kept_in, Placed, Gathered, Shortened}
use Rattle.thin.proofs.Same.{emptied-none, emptied-turn}
use Rattle.thin.proofs.Looking.{says-as}

-- p in front of q, which stands already
put-before : (at n : ℕ) (p q l : List ℕ) → length p ≡ n → at + n + length q ≤ length l → put at p (put (at + n) q l) ≡ put at (p ++ q) l
put-before at n p q l e h =
    let a : List ℕ = take at l in
    let r : List ℕ = take n (drop at l) in
    let d : List ℕ = drop (at + n + length q) l in
    let f : length a ≡ at = length-take-le at l (omega arith) in
    let g : length r ≡ n = length-take-le n (drop at l) (rw length-drop (omega arith)) in
    let x : put (at + n) q l ≡ a ++ r ++ (q ++ d) = put-def (at + n) q l ∙ ap (λ (z : List ℕ). z ++ q ++ d) (take-add at n l) ∙ append_assoc (a ++ r) q d in
    let m : at + length (p ++ q) ≡ at + n + length q = rw length-append (omega arith) in
    ap (put at p) x ∙ put-mid at p a r (q ++ d) f (e ∙ sym g) ∙ sym (rw (put-def at (p ++ q) l, m) (simp append_assoc))

-- ---- one step, kept or not

pub placed : {b : List ℕ} {i k : ℕ} {c : Bool} {l l' : List ℕ} → c ≡ true
    → l' ≡ put (step_bytes * (k - 1)) (take (step_bytes * i + step_bytes - step_bytes * i) (drop (step_bytes * i) b)) l → Placed b i c k l (k - 1) l'
placed {b} {i} {k} {c} {l} {l'} e f =
    let at : ℕ = step_bytes * i in
    let s : at + step_bytes - at ≡ step_bytes = omega arith in
    let g : take (at + step_bytes - at) (drop at b) ≡ part at step_bytes b = ap (λ (n : ℕ). take n (drop at b)) s ∙ sym (part-def at step_bytes b) in
    record { first = rw e; bytes = rw e (f ∙ ap (λ (x : List ℕ). put (step_bytes * (k - 1)) x l) g) }

pub known-transactor : {p : Step} (b : List ℕ) → p ≡ unpack_step b → p.transactor < base.transactors
unfolding unpack_step
known-transactor {p} b e = let t : p.transactor ≡ get_or b 0 0 % 16 = ap (λ (q : Step). q.transactor) e in omega arith

-- ---- the list

-- the steps of b from i on are gathered: they stand in out from place k on
pub record Gathering (b rs : List ℕ) (i k : ℕ) (e : List Bool) (out : List ℕ) : Type 0 where
  pub within : i ≤ steps_in b
  pub room : i ≤ k
  pub few : k ≤ steps_in b
  pub says : Says (λ t. emptied_from b (outcome_in rs) t i (steps_in b - i)) e
  pub count : k + counted (kept_in b rs) (steps_in b) ≡ steps_in b + counted (kept_in b rs) i
  -- their bytes
  pub tail : List ℕ
  pub whole : chosen (kept_in b rs) (steps_in b) b ≡ chosen (kept_in b rs) i b ++ tail
  pub long : step_bytes * k + length tail ≡ length rs
  pub stands : out ≡ put (step_bytes * k) tail rs
  pub size : length out ≡ length rs

module _ (b rs : List ℕ) (same : length rs ≡ length b) (steps : step_bytes * steps_in b ≡ length b) where
  abbrev N : ℕ
  N = steps_in b

  abbrev f : ℕ → Bool
  f = kept_in b rs

  abbrev o : ℕ → ℕ
  o = outcome_in rs

  pub gathering-none : (e : List Bool) → Says (λ t. false) e → Gathering b rs (steps_in b) (steps_in b) e rs
  gathering-none e s = record {
    within = omega arith;
    room = omega arith;
    few = omega arith;
    says = says-as s (λ t l. sym (emptied-none b o t N N (omega arith)));
    count = refl;
    tail = [];
    whole = sym (append-nil (chosen f N b));
    long = omega arith;
    stands = put-nil (step_bytes * N) rs;
    size = refl;
  }

  module _ {i k : ℕ} {e : List Bool} {out : List ℕ} (g : Gathering b rs i k e out) (some : 0 < i) where
    abbrev j : ℕ
    j = i - 1

    abbrev p : Step
    p = step_at b j

    next : suc j ≡ i
    next = omega arith

    -- its reply stands there still
    replied : get_or out (step_bytes * j) 0 ≡ outcome_in rs j
    unfolding outcome_in
    replied =
        let a : ℕ = step_bytes * j in
        let first : (l : List ℕ) → get_or l a 0 ≡ get_or (part a 1 l) 0 0 = λ l. ap (λ (x : ℕ). get_or l x 0) (sym (add-zero a)) ∙ sym (get_d_part a 1 l 0 (omega arith)) in
        first out
        ∙ ap (λ (l : List ℕ). get_or (part a 1 l) 0 0) g.stands
        ∙ ap (λ (l : List ℕ). get_or l 0 0) (part-put-before (step_bytes * k) g.tail rs (omega (arith, g.long)) a 1 (omega (arith, g.room)))
        ∙ sym (first rs)

    known : p.transactor < base.transactors
    unfolding step_at
    known = known-transactor _ refl

    decided : kept_by p (outcome_in rs j) e ≡ f j
    unfolding kept_by kept unused
    decided =
        let t : ℕ = p.transactor in
        ap (λ (c : Bool). not_refused (o j) and not (eqb p.kind read and c)) (g.says.at t known ∙ ap (λ (n : ℕ). emptied_from b o t n (N - n)) (sym next))

    before : (e' : List Bool) → Says (with p (outcome_in rs j) e) e' → Says (λ t. emptied_from b (outcome_in rs) t j (steps_in b - j)) e'
    unfolding with
    before e' s =
        says-as s
        (λ t l.
        ap (λ (c : Bool). pick (touches p (o j) t) (empties p (o j)) c) (g.says.at t l ∙ ap (λ (n : ℕ). emptied_from b o t n (N - n)) (sym next))
        ∙ sym (emptied-turn b o t j N (omega (arith, g.within))))

    counts : counted f i ≡ counted f j + pick (f j) 1 0
    counts = ap (counted f) (sym next) ∙ counted-suc f j

    chooses : chosen f i b ≡ chosen f j b ++ pick (f j) (part (step_bytes * j) step_bytes b) []
    chooses = ap (λ (n : ℕ). chosen f n b) (sym next) ∙ chosen-suc f j b

    wide : length (part (step_bytes * j) step_bytes b) ≡ step_bytes
    wide = length_part (step_bytes * j) step_bytes b (omega (arith, g.within))

    kept-turn : (e' : List Bool) → Says (with p (outcome_in rs j) e) e' → f j ≡ true → Gathering b rs j (k - 1) e' (put (step_bytes * (k - 1)) (part (step_bytes * j) step_bytes b) out)
    kept-turn e' s h =
        let q : List ℕ = part (step_bytes * j) step_bytes b in
        let m : step_bytes * k ≡ step_bytes * (k - 1) + step_bytes = omega (arith, g.room) in
        let w : ◌≡◌ {A = ℕ} (pick (f j) 1 0) 1 = ap (λ (c : Bool). pick c 1 0) h in
        record {
          within = omega (arith, g.within);
          room = omega (arith, g.room);
          few = omega (arith, g.few);
          says = before e' s;
          count = omega (arith, g.count, counts, g.room, w);
          tail = q ++ g.tail;
          whole = g.whole ∙ ap (λ (l : List ℕ). l ++ g.tail) (chooses ∙ ap (λ (c : Bool). chosen f j b ++ pick c q []) h) ∙ append_assoc (chosen f j b) q g.tail;
          long = rw length-append (omega (arith, g.long, wide, g.room));
          stands =
              ap (put (step_bytes * (k - 1)) q) (g.stands ∙ ap (λ (n : ℕ). put n g.tail rs) m)
              ∙ put-before (step_bytes * (k - 1)) step_bytes q g.tail rs wide (omega (arith, g.long));
          size = length-put (step_bytes * (k - 1)) q out (omega (arith, wide, g.room, g.few, g.size)) ∙ g.size;
        }

    left-turn : (e' : List Bool) → Says (with p (outcome_in rs j) e) e' → f j ≡ false → Gathering b rs j k e' out
    left-turn e' s h =
        let w : ◌≡◌ {A = ℕ} (pick (f j) 1 0) 0 = ap (λ (c : Bool). pick c 1 0) h in
        record {
          within = omega (arith, g.within);
          room = omega (arith, g.room);
          few = omega (arith, g.few);
          says = before e' s;
          count = omega (arith, g.count, counts, w);
          tail = g.tail;
          whole = g.whole ∙ ap (λ (l : List ℕ). l ++ g.tail) (chooses ∙ ap (λ (c : Bool). chosen f j b ++ pick c (part (step_bytes * j) step_bytes b) []) h ∙ append-nil (chosen f j b));
          long = g.long;
          stands = g.stands;
          size = g.size;
        }

    turn : (e' : List Bool) → Says (with p (outcome_in rs j) e) e' → (c : Bool) → c ≡ f j
        → Gathering b rs j (k - pick c 1 0) e' (pick c (put (step_bytes * (k - 1)) (part (step_bytes * j) step_bytes b) out) out)
    turn e' s true h = kept-turn e' s (sym h)
    turn e' s false h = rw sub-zero (left-turn e' s (sym h))

    pub gathering-more : {q : Step} {x : ℕ} {c : Bool} {k' : ℕ} {out' : List ℕ} {e' : List Bool} → q ≡ unpack_step (part (step_bytes * (i - 1)) step_bytes b)
        → x ≡ get_or out (step_bytes * (i - 1)) 0 → c ≡ kept_by q x e → Placed b (i - 1) c k out k' out' → Says (with q x e) e' → Gathering b rs (i - 1) k' e' out'
    unfolding step_at
    gathering-more {q} {x} {c} {k'} {out'} {e'} a d h m s =
        let z : x ≡ outcome_in rs j = d ∙ replied in
        let s' : Says (with p (outcome_in rs j) e) e' = subst (λ (r : Step). Says (with r (outcome_in rs j) e) e') a (subst (λ (y : ℕ). Says (with q y e) e') z s) in
        let v : c ≡ f j = h ∙ ap (λ (y : ℕ). kept_by q y e) z ∙ ap (λ (r : Step). kept_by r (outcome_in rs j) e) a ∙ decided in
        rw (m.first, m.bytes) (turn e' s' c v)

  pub gathering-all : {i k : ℕ} {e : List Bool} {out : List ℕ} → Gathering b rs i k e out → i ≡ 0 → Gathered b rs out (steps_in b - k)
  gathering-all {i} {k} {e} {out} g z = record {
    count = omega (arith, g.count, none);
    steps =
        let m : step_bytes * (N - (N - k)) ≡ step_bytes * k = omega (arith, g.few) in
        g.stands
        ∙ ap (λ (l : List ℕ). put (step_bytes * k) l rs) (sym (g.whole ∙ ap (λ (l : List ℕ). l ++ g.tail) (ap (λ (n : ℕ). chosen f n b) z ∙ chosen_none f b)))
        ∙ ap (λ (n : ℕ). put n (chosen f N b) rs) (sym m);
  }
    where
      none : counted f i ≡ 0
      none = ap (counted f) z ∙ counted_none f

  -- ---- brought down

  module _ {n : ℕ} {l : List ℕ} (g : Gathered b rs l n) where
    abbrev c : List ℕ
    c = chosen f N b

    pub gathered-few : step_bytes * n ≤ length b
    gathered-few = omega (arith, g.count, counted-few f N, steps)

    wide-all : length c ≡ step_bytes * n
    wide-all = length-chosen f b N (omega (arith, steps)) ∙ ap (λ (k : ℕ). step_bytes * k) (sym g.count)

    ends : step_bytes * (N - n) + length c ≡ length rs
    ends = omega (arith, wide-all, gathered-few, same, steps)

    stays : length l ≡ length rs
    stays = ap length g.steps ∙ length-put (step_bytes * (N - n)) c rs (omega (arith, ends))

    found : part (length b - step_bytes * n) (step_bytes * n) l ≡ c
    found =
        let a : length b - step_bytes * n ≡ step_bytes * (N - n) = omega (arith, same, ends, wide-all) in
        ap (λ (k : ℕ). part k (step_bytes * n) l) a
        ∙ ap (λ (k : ℕ). part (step_bytes * (N - n)) k l) (sym wide-all)
        ∙ ap (part (step_bytes * (N - n)) (length c)) g.steps
        ∙ part-put (step_bytes * (N - n)) c rs (omega (arith, ends))

    pub shortened : {l' : List ℕ} → l' ≡ put 0 (part (0 + (length b - step_bytes * n)) (step_bytes * n) l ++ zeros (length b - step_bytes * n)) l → Shortened b rs l' n
    shortened {l'} e =
        let w : ℕ = length b - step_bytes * n in
        let z : List ℕ = zeros w in
        let m : length (c ++ z) ≡ length l = length-append c z ∙ omega (arith, length-zeros (length b - step_bytes * n), wide-all, gathered-few, same, stays) in
        record { count = g.count; bytes = e ∙ ap (λ (k : ℕ). put 0 (part k (step_bytes * n) l ++ z) l) (zero-add w) ∙ ap (λ (x : List ℕ). put 0 (x ++ z) l) found ∙ put_whole (c ++ z) l m }
