-- `decoding::fields`: what is read lies within the bytes of the form, and is what the form has there.
use native.Mathlib.Omega.{arith}
use Rattle.decoding.proofs.Laws.{laid_within, asked}
use Rattle.decoding.proofs.fields.Goals as goal

pub bounds-c-protect : goal.bounds-c-protect
bounds-c-protect c = omega (arith, laid_within c.args.f c.layout_of-l.ensures c.requires)

pub read_at-address-requires : goal.read_at-address-requires
read_at-address-requires c = omega (arith, laid_within c.args.f c.layout_of-l.ensures c.requires)

pub read_at-length-requires : goal.read_at-length-requires
read_at-length-requires c = omega (arith, laid_within c.args.f c.layout_of-l.ensures c.requires)

pub returns : goal.returns
returns c =
    asked _ _ _ c.layout_of-l.ensures c.is_long.ensures c.check_bits-check.ensures c.read_at-address.ensures c.read_at-length.ensures c.tags.ensures
