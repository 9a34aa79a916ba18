-- The rows in the code are the document's: one test over all of them gives their rule, and the rule gives what is looked up.
-- Assumes nothing.
use mathlib.Core.Path.{◌≡◌, refl, sym, ◌∙◌}
use mathlib.Core.Bool.{Bool, true, false, ◌&&◌, beq}
use mathlib.Core.List.{List}
use Prim.Native.Nat.{ℕ, ◌<◌, ◌≤◌}
use native.Mathlib.Nat.{lt_of_lt_of_le}
use native.Mathlib.Omega.{arith}
use borrow.Author.Tests.{ne_eqb}
use lib.Dec.{T, lit<}
use lib.ListN.{length}
use Rattle.words.proofs.Every.{every, each}
use Rattle.codes.specs.declared.Columns.{Columns}
use Rattle.codes.specs.Codes.{columns_of, refused_code}
use Rattle.codes.specs.Rows.{named, InOrder}

-- two rows, compared column by column
abbrev pub alike : Columns → Columns → Bool
alike a b =
    beq a.refused b.refused
    && (beq a.fields b.fields
    && (beq a.guard b.guard && (beq a.application b.application && (beq a.reference b.reference && true))))

cell : (a b rest : Bool) → T (beq a b && rest) → (a ≡ b) × (T rest)
cell true true rest t = (refl, t)
cell true false rest t = absurd t
cell false true rest t = absurd t
cell false false rest t = (refl, t)

row : {r r' f f' g g' a a' t t' : Bool} → r ≡ r' → f ≡ f' → g ≡ g' → a ≡ a' → t ≡ t'
    → ◌≡◌ {A = Columns} (record { refused = r; fields = f; guard = g; application = a; reference = t }) (record { refused = r'; fields = f'; guard = g'; application = a'; reference = t' })
row r f g a t = rw (r, f, g, a, t)

alike_same : (a b : Columns) → T (alike a b) → a ≡ b
alike_same a b t =
    let r = cell a.refused b.refused _ t in
    let f = cell a.fields b.fields _ r.1 in
    let g = cell a.guard b.guard _ f.1 in
    let p = cell a.application b.application _ g.1 in
    row r.0 f.0 g.0 p.0 (cell a.reference b.reference _ p.1).0

-- row k is what code k chooses, as a test
abbrev pub rule : ℕ → ℕ → Bool
rule k r = alike (named r) (columns_of k)

pub in_order : (t : List ℕ) → T (every rule 0 t) → 8 ≤ length t → InOrder t
in_order t p l = record { row = λ k h. alike_same _ _ (each rule t p k (lt_of_lt_of_le h l)) }

-- every number but a code that is served is refused
pub not_served : (n : ℕ) → 0b101 < n → columns_of n ≡ refused_code
unfolding columns_of
not_served n h = rw (ne_eqb n 0 (omega arith), ne_eqb n 1 (omega arith), ne_eqb n 2 (omega arith), ne_eqb n 3 (omega arith), ne_eqb n 4 (omega arith), ne_eqb n 5 (omega arith))

-- a number above 111 is refused as 111 is
pub no_code : (n : ℕ) → 0b111 < n → columns_of 0b111 ≡ columns_of n
no_code n h = not_served 0b111 (lit< tt) ∙ sym (not_served n (omega arith))
