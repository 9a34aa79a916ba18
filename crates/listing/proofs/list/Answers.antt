-- `listing::list`: a refusal is one line; what is not refused is a segment in its frame.
use mathlib.Core.Path.{refl}
use native.Mathlib.Omega.{arith}
use Rattle.listing.proofs.ListingLaws.{list_as, list_whole, refused_is, listed_is, list_fits}
use Rattle.listing.proofs.list.Goals as goal

pub slice_bounds-print_listed-count : goal.slice_bounds-print_listed-count
slice_bounds-print_listed-count c = let f = (list_whole _ c.in-Ok.ensures.answer refl).frame in omega (arith, f.whole, f.least)

pub slice_bounds-print_listed-start : goal.slice_bounds-print_listed-start
slice_bounds-print_listed-start c = let f = (list_whole _ c.in-Ok.ensures.answer refl).frame in omega (arith, f.whole, f.least)

pub print_listed-requires : goal.print_listed-requires
print_listed-requires c =
    let f = list_fits _ (list_whole _ c.in-Ok.ensures.answer refl) c.in-Ok.ensures.numbers in
    record { d_value = f.1.0; s_len_bound = f.1.1 }

pub returns-in-Ok : goal.returns-in-Ok
returns-in-Ok c = list_as _ (listed_is _ c.in-Ok.ensures.answer refl c.in-Ok.ensures.numbers) c.print_listed.ensures

pub returns-in-Err : goal.returns-in-Err
returns-in-Err c = list_as _ (refused_is _ c.in-Err.ensures.answer refl) c.print_refused.ensures
