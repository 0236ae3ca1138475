-- Running a list: the part that is run, and the answer.
use Prim.Native.Nat.{ℕ, ◌-◌, ◌*◌, ◌/◌, ◌%◌, ◌≤◌, ◌<◌}
use mathlib.Core.Bool.{true, false, not}
use mathlib.Core.Path.{◌≡◌, sym, ◌∙◌}
use mathlib.Core.List.{List}
use native.Mathlib.Omega.{arith}
use borrow.Author.Tests.{lt-ltb, le-ltb, eq-eqb, ne_eqb}
use lib.Dec.{eqb}
use lib.ListN.{length}
use Rattle.octets.specs.Bytes.{part}
use Rattle.octets.proofs.Put.{length_part}
use Rattle.rules.specs.Layout.{Layout, image_bytes}
use Rattle.rules.specs.Step.{step_bytes}
use Rattle.rules.specs.Form.{well_formed}
use Rattle.rules.specs.Calls.{longest, wrong_part, run_answer, ran_image, ran_replies, run_image, run_replies}
use Rattle.rules.proofs.Calls.Begin.{wrong-length, right-length}

-- ---- the part that is run: 17

module _ (list : List ℕ) (start end : ℕ) where
  pub part-reversed : end < start → wrong_part list start end ≡ true
  unfolding wrong_part
  part-reversed h = rw (lt-ltb end start h)

  module _ (forth : start ≤ end) where
    pub part-past : length list < end → wrong_part list start end ≡ true
    unfolding wrong_part
    part-past h = rw (le-ltb end start forth, lt-ltb (length list) end h)

    module _ (within : end ≤ length list) where
      pub part-broken : ((end - start) % step_bytes ≡ 0 → ⊥) → wrong_part list start end ≡ true
      unfolding wrong_part
      part-broken n = rw (le-ltb end start forth, le-ltb (length list) end within, ne_eqb ((end - start) % step_bytes) 0 n)

      module _ (whole : (end - start) % step_bytes ≡ 0) where
        pub part-long : longest < end - start → wrong_part list start end ≡ true
        unfolding wrong_part
        part-long h = rw (le-ltb end start forth, le-ltb (length list) end within, eq-eqb ((end - start) % step_bytes) 0 whole, lt-ltb longest (end - start) h)

        pub part-fine : end - start ≤ longest → wrong_part list start end ≡ false
        unfolding wrong_part
        part-fine h = rw (le-ltb end start forth, le-ltb (length list) end within, eq-eqb ((end - start) % step_bytes) 0 whole, le-ltb longest (end - start) h)

        -- whole steps, as many as there are replies
        pub part-steps : (replies : List ℕ) → length replies ≡ end - start
            → (length replies ≡ length (part start (end - start) list)) × (step_bytes * (length (part start (end - start) list) / step_bytes) ≡ length (part start (end - start) list))
        part-steps replies same =
            let n : length (part start (end - start) list) ≡ end - start = length_part start (end - start) list (omega arith) in
            (same ∙ sym n, rw n (omega arith))

-- ---- the answer, the image and the replies

module _ (y : Layout) (img list : List ℕ) (start end : ℕ) (replies : List ℕ) where
  -- r, the image l and the replies rs are right
  abbrev pub Ran : ℕ → List ℕ → List ℕ → Type 0
  Ran r l rs = (r ≡ run_answer y img list start end replies) × (l ≡ run_image y img list start end replies) × (rs ≡ run_replies y img list start end replies)

  refused : (r : ℕ) → r ≡ run_answer y img list start end replies → (r ≡ 0 → ⊥) → Ran r img replies
  unfolding run_image run_replies
  refused r e n =
      let z : eqb (run_answer y img list start end replies) 0 ≡ false = ne_eqb (run_answer y img list start end replies) 0 (λ (f : run_answer y img list start end replies ≡ 0). n (e ∙ f)) in
      (e, rw z, rw z)

  pub ran-16 : (length img ≡ image_bytes y → ⊥) → Ran 16 img replies
  unfolding run_answer
  ran-16 n = refused 16 (rw (wrong-length y img n)) (λ e. omega arith)

  module _ (long : length img ≡ image_bytes y) where
    pub ran-17 : wrong_part list start end ≡ true → Ran 17 img replies
    unfolding run_answer
    ran-17 e = refused 17 (rw (right-length y img long, e)) (λ e. omega arith)

    module _ (fine : wrong_part list start end ≡ false) where
      pub ran-18 : (length replies ≡ end - start → ⊥) → Ran 18 img replies
      unfolding run_answer
      ran-18 n = refused 18 (rw (right-length y img long, fine, ne_eqb (length replies) (end - start) n)) (λ e. omega arith)

      module _ (same : length replies ≡ end - start) where
        pub ran-19 : not (well_formed y img) ≡ true → Ran 19 img replies
        unfolding run_answer
        ran-19 e = refused 19 (rw (right-length y img long, fine, eq-eqb (length replies) (end - start) same, e)) (λ e. omega arith)

        pub ran-0 : (l rs : List ℕ) → not (well_formed y img) ≡ false → l ≡ ran_image y img (part start (end - start) list) → rs ≡ ran_replies y img (part start (end - start) list) → Ran 0 l rs
        unfolding run_image run_replies run_answer
        ran-0 l rs e f g =
            let a : run_answer y img list start end replies ≡ 0 = rw (right-length y img long, fine, eq-eqb (length replies) (end - start) same, e) in
            let z : eqb (run_answer y img list start end replies) 0 ≡ true = eq-eqb (run_answer y img list start end replies) 0 a in
            (sym a, f ∙ rw z, g ∙ rw z)
