-- The rules of judging and the first tag, from the facts that decide them.
-- Assumes nothing.
use mathlib.Core.Path.{◌≡◌, sym, ◌∙◌}
use mathlib.Core.Bool.{Bool, false, ◌&&◌}
use mathlib.Core.List.{List}
use Prim.Native.Nat.{ℕ, ◌+◌, ◌%◌, ◌^◌, ◌≤◌}
use native.Mathlib.Nat.{zero-add}
use native.Mathlib.Omega.{arith}
use borrow.Author.Tests.{eq-eqb, ne_eqb}
use lib.ListN.{length}
use Rattle.segment.specs.declared.Description.{Description}
use Rattle.segment.specs.Segment.{IsSegment, intervals_of, size_of}
use Rattle.segment.specs.Places.{span_of}
use Rattle.segment.proofs.Laws.{sizes}
use Rattle.segment.proofs.Places.{span_intervals, intervals_few}
use Rattle.command.specs.declared.Command.{Command}
use Rattle.command.specs.Tags.{tag_of, application_of, mask_of}
use Rattle.interval.specs.declared.Escape.{Escape}
use Rattle.interval.specs.declared.Rules.{Rules}
use Rattle.interval.specs.declared.Place.{Place}
use Rattle.judge.specs.Judge.{Run}
use Rattle.sides.specs.declared.Side.{Side}
use Rattle.rules.specs.declared.Columns.{Columns}
use Rattle.rules.specs.Rules.{columns_in, columns_of, application_known, reference_known, first_tag, escape_of, rules_of, start_of}

-- no code of the table's: nothing is checked
pub no_code : (n : ℕ) → (n ≡ 0 → ⊥) → (n ≡ 1 → ⊥) → (n ≡ 2 → ⊥) → (n ≡ 3 → ⊥) → (n ≡ 4 → ⊥) → (n ≡ 5 → ⊥) → columns_of n ≡ columns_in false false false
unfolding columns_of
no_code n a b c d e f = rw (ne_eqb n 0 a, ne_eqb n 1 b, ne_eqb n 2 c, ne_eqb n 3 d, ne_eqb n 4 e, ne_eqb n 5 f)

module _ (d : Description) (c : Command) where
  -- ---- the first tag
  pub tag_one : d.kind ≡ 1 → first_tag d c ≡ c.address % 2 ^ 32
  unfolding first_tag
  tag_one k = rw (eq-eqb d.kind 1 k)

  pub tag_other : (d.kind ≡ 1 → ⊥) → first_tag d c ≡ tag_of c
  unfolding first_tag
  tag_other k = rw (ne_eqb d.kind 1 k)

  -- ---- the structs, field by field
  pub rules_are : (side : Side) (n z : ℕ) (k : Columns) (u v a r : Bool) (e : Escape) → n ≡ intervals_of d → z ≡ size_of d → k ≡ columns_of c.code
      → u ≡ application_known d c → v ≡ reference_known d c → a ≡ (k.application && u) → r ≡ (k.reference && v) → e ≡ escape_of side d.kind
      → ◌≡◌ {A = Rules} (record { intervals = n; size = z; guard = k.guard; application = a; reference = r; expected = application_of c; mask = mask_of c; escape = e }) (rules_of side d c)
  unfolding rules_of
  rules_are side n z k u v a r e p q w x y f g h = rw (f, g, h, p, q, w, x, y)

  pub start_is : (t : ℕ) → t ≡ first_tag d c → ◌≡◌ {A = Place} (record { address = c.address; interval = 0; tag = t }) (start_of d c)
  unfolding start_of
  start_is t e = rw e

-- so many blocks of a side, from the command's address on, are a run that can be judged
pub side_run : (side : Side) (d : Description) (c : Command) (count : ℕ) (s : List ℕ) → IsSegment d → (d.kind ≡ 0 → ⊥) → count ≤ 65536
    → c.address + count ≤ 2 ^ 63 → length s ≡ span_of d count → Run (rules_of side d c) count (start_of d c) s
unfolding rules_of start_of
side_run side d c count s segment fields few end long =
    record {
      whole = span_intervals d segment count fields ∙ sym long;
      addresses = end;
      intervals = rw zero-add (omega (arith, intervals_few d segment count few));
      few = (sizes d segment).intervals_most;
      size = (sizes d segment).size_most;
    }
