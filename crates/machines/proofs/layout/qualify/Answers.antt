use Rattle.machines.proofs.QualifyLaws.{fits-within, spelt_is, spelt-not}
use mathlib.Core.Path.{refl}
use native.Mathlib.Omega.{arith}
use Rattle.machines.proofs.layout.qualify.Goals as goal

pub prefix_len-f-requires : goal.prefix_len-f-requires
prefix_len-f-requires c = let w = fits-within _ _ _ _ _ _ c.fits.ensures c.if-fits.true in omega arith

pub overflow_add-w : goal.overflow_add-w
overflow_add-w c = let w = fits-within _ _ _ _ _ _ c.fits.ensures c.if-fits.true in omega (arith, c.prefix_len-f.ensures)

pub overflow_add-at : goal.overflow_add-at
overflow_add-at c = let w = fits-within _ _ _ _ _ _ c.fits.ensures c.if-fits.true in omega arith

pub put_prefix-requires : goal.put_prefix-requires
put_prefix-requires c = let w = fits-within _ _ _ _ _ _ c.fits.ensures c.if-fits.true in (omega arith, omega (arith, c.set_byte.auto.t))

pub overflow_add-at-then-fits : goal.overflow_add-at-then-fits
overflow_add-at-then-fits c = let w = fits-within _ _ _ _ _ _ c.fits.ensures c.if-fits.true in omega arith

pub overflow_add-at-then-fits-2 : goal.overflow_add-at-then-fits-2
overflow_add-at-then-fits-2 c = let w = fits-within _ _ _ _ _ _ c.fits.ensures c.if-fits.true in omega (arith, c.prefix_len-f.ensures)

pub put_name-requires : goal.put_name-requires
put_name-requires c = let w = fits-within _ _ _ _ _ _ c.fits.ensures c.if-fits.true in omega (arith, c.prefix_len-f.ensures, c.name_len-n.ensures, c.set_byte.auto.t, c.put_prefix.auto.qualified)

pub returns-then-fits : goal.returns-then-fits
returns-then-fits c = spelt_is c.args.pack.now c.args.offsets.now c.args.qualified.now c.args.i c.args.a c.args.m c.args.at c.name_len-n.result c.fits.result c.fits.ensures c.name_len-n.ensures c.prefix_len-f.result _ _ _ _ c.if-fits.true c.prefix_len-f.ensures refl c.set_byte.ensures c.put_prefix.ensures c.put_name.ensures

pub returns : goal.returns
returns c = spelt-not c.args.pack.now c.args.offsets.now c.args.qualified.now c.args.i c.args.a c.args.m c.args.at c.name_len-n.result c.fits.result c.fits.ensures c.name_len-n.ensures c.if-fits.false
