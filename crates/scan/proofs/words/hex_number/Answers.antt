use Rattle.std.proofs.Common.{arith}
use Rattle.scan.proofs.Wording.{digits-length, digit_at, hex-fits, hex-more, hex-none, hex-end}
use Rattle.scan.proofs.words.hex_number.Goals as goal

pub loop-i-init : goal.loop-i-init
loop-i-init c = record { value = hex-none _ _; fits = omega arith }

pub overflow_mul-x : goal.overflow_mul-x
overflow_mul-x c = let h = hex-fits _ c.requires.0 0 c.loop-i.i c.loop-i.x (omega arith) c.loop-i.invariant.fits in omega arith

pub bounds-w-at : goal.bounds-w-at
bounds-w-at c = omega (arith, digits-length _ c.requires.0)

pub digit-requires : goal.digit-requires
digit-requires c = digit_at _ c.requires.0 _ (omega arith)

pub overflow_add-x : goal.overflow_add-x
overflow_add-x c = let h = hex-fits _ c.requires.0 0 c.loop-i.i c.loop-i.x (omega arith) c.loop-i.invariant.fits in omega arith

pub loop-i-preserved : goal.loop-i-preserved
loop-i-preserved c =
    let h = hex-more _ c.requires.0 _ c.loop-i.i c.loop-i.x c.loop-i.invariant.value c.loop-i.invariant.fits _ c.digit.ensures.0 c.digit.ensures.1 in
    record { value = h.0; fits = h.1 }

pub returns : goal.returns
returns c = hex-end _ _ c.loop-i.i _ _ (omega arith) (c.loop-i.invariant.value, c.loop-i.invariant.fits)
