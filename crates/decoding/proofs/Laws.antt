-- The laws of commands: what each form has room for, once for all four, and what a decoded command is within.
-- Assumes nothing.
use Rattle.std.specs.Prelude.{Ok, Err}
use mathlib.Core.Path.{◌≡◌, refl, sym, ◌∙◌}
use mathlib.Core.Bool.{Bool, true, false, not, ◌&&◌, cond}
use mathlib.Core.List.{List, [], ◌∷◌}
use Prim.Native.Nat.{ℕ, ◌+◌, ◌/◌, ◌^◌, ◌≤◌, ◌<◌}
use native.Mathlib.Nat.{lt_of_lt_of_le, pow-le-pow_right}
use native.Mathlib.Omega.{arith}
use borrow.Author.Rules.{rules}
use borrow.Author.Tests.{eq-eqb, ne_eqb, le-ltb, lt-ltb}
use lib.Dec.{eqb, lit<, lit≤}
use lib.ListN.{length, get_or, take, drop, length-take}
use Rattle.words.specs.BigEndian.{number_at}
use Rattle.words.specs.Parts.{Bytes}
use Rattle.words.proofs.BigEndian.{number_lt}
use Rattle.words.proofs.Choice.{unwrong}
use Rattle.words.proofs.Parts.{part_bytes}
use Rattle.answer.specs.declared.Reason.{Reason}
use Rattle.answer.specs.declared.Reason.TheVariants as reasons
use Rattle.command.specs.declared.Operation.{Operation}
use Rattle.command.specs.declared.Operation.TheVariants.{Read, Write, Verify}
use Rattle.command.specs.declared.Tags.{Tags}
use Rattle.command.specs.declared.Command.{Command}
use Rattle.command.specs.Tags.{tag_of, application_of, mask_of}
use Rattle.command.specs.Sixteen.{sixteen}
use Rattle.decoding.specs.declared.Form.{Form}
use Rattle.decoding.specs.declared.Form.TheVariants.{Ten, Twelve, Sixteen, ThirtyTwo}
use Rattle.decoding.specs.declared.Layout.{Layout}
use Rattle.decoding.specs.Commands.{check_bits, Row, byte_zero, service_action, find, recognise, layout_of, is_long, tags, fields, decode_as, decode, Named}

-- ---- the sizes of the four forms

-- each field lies within n bytes and fits the number that is read from it; those of the long form end at byte 28
pub record Within (l : Layout) (n : ℕ) (long : Bool) : Type 0 where
  pub address : l.address + l.addressed ≤ n
  pub addressed : l.addressed ≤ 8
  pub length : l.length + l.lengthened ≤ n
  pub lengthened : l.lengthened ≤ 4
  pub protect : l.protect < n
  pub tags : long ≡ true → 28 ≤ n

pub within : (f : Form) → Within (layout_of f) (layout_of f).bytes (is_long f)
within Ten = search rules
within Twelve = search rules
within Sixteen = search rules
within ThirtyTwo = search rules

pub laid_within : (f : Form) {l : Layout} {n : ℕ} → l ≡ layout_of f → n ≡ (layout_of f).bytes → Within l n (is_long f)
laid_within f e h = rw (e, h) (within f)

-- ---- the rows of the table

-- A, and v is not the value of any row
abbrev pub Beside : Type 0 → ℕ → List Row → Type 0
Beside A v [] = A
Beside A v (r ∷ rs) = Beside (A × (v ≡ r.value → ⊥)) v rs

pub none : (A : Type 0) (v : ℕ) (rs : List Row) → Beside A v rs → A × (find v rs ≡ Err reasons.OperationInvalid)
none A v [] a = (a, refl)
none A v (r ∷ rs) b =
    let rest = none (A × (v ≡ r.value → ⊥)) v rs b in
    (rest.0.0, rw (ne_eqb v r.value rest.0.1) rest.1)

pub recognise_empty : (c : List ℕ) → length c ≡ 0 → recognise c ≡ Err reasons.CommandLengthWrong
unfolding recognise
recognise_empty c h = rw (eq-eqb (length c) 0 h)

module _ (c : List ℕ) (some : length c ≡ 0 → ⊥) where
  pub recognise_byte : (get_or c 0 0 ≡ 0x7F → ⊥) → recognise c ≡ find (get_or c 0 0) byte_zero
  unfolding recognise
  recognise_byte n = rw (ne_eqb (length c) 0 some, ne_eqb (get_or c 0 0) 0x7F n)

  pub recognise_short : get_or c 0 0 ≡ 0x7F → length c < 10 → recognise c ≡ Err reasons.CommandLengthWrong
  unfolding recognise
  recognise_short e h = rw (ne_eqb (length c) 0 some, eq-eqb (get_or c 0 0) 0x7F e, lt-ltb (length c) 10 h)

  pub recognise_action : get_or c 0 0 ≡ 0x7F → 10 ≤ length c → recognise c ≡ find (number_at 8 2 c) service_action
  unfolding recognise
  recognise_action e h = rw (ne_eqb (length c) 0 some, eq-eqb (get_or c 0 0) 0x7F e, le-ltb (length c) 10 h)

-- ---- the fields
pub asked : (o : Operation) (f : Form) (c : List ℕ) {l : Layout} {long : Bool} {k a n : ℕ} {t : Tags} → l ≡ layout_of f → long ≡ is_long f
    → k ≡ check_bits o (get_or c l.protect 0)
    → a ≡ number_at l.address l.addressed c → n ≡ number_at l.length l.lengthened c
    → t ≡ tags f c
    → record {
      operation = o;
      long = long;
      code = get_or c l.protect 0 / 32;
      check = k;
      address = a;
      length = n;
      tags = t;
    } ≡ fields o f c
unfolding fields
asked o f c el es ek ea en et = rw (ek, ea, en, et, el, es)

-- ---- the refusals
module _ (o : Operation) (f : Form) (c : List ℕ) where
  pub decode_length : (length c ≡ (layout_of f).bytes → ⊥) → decode_as o f c ≡ Err reasons.CommandLengthWrong
  unfolding decode_as
  decode_length n = rw (ne_eqb (length c) (layout_of f).bytes n)

  pub decode_field : length c ≡ (layout_of f).bytes → is_long f ≡ true → (get_or c 7 0 ≡ 0x18 → ⊥) → decode_as o f c ≡ Err reasons.FieldInvalid
  unfolding decode_as
  decode_field e l n = rw (eq-eqb (length c) (layout_of f).bytes e, l, ne_eqb (get_or c 7 0) 0x18 n)

  pub decode_served : length c ≡ (layout_of f).bytes → (is_long f ≡ true → get_or c 7 0 ≡ 0x18) → decode_as o f c ≡ Ok (fields o f c)
  unfolding decode_as
  decode_served e h = rw (eq-eqb (length c) (layout_of f).bytes e, unwrong (is_long f) (get_or c 7 0) 0x18 h)

module _ (c : List ℕ) where
  pub decode_known : {o : Operation} {f : Form} → recognise c ≡ Ok (o, f) → decode c ≡ decode_as o f c
  unfolding decode
  decode_known e = rw e

  pub decode_unknown : {a : Reason} → recognise c ≡ Err a → decode c ≡ Err a
  unfolding decode
  decode_unknown e = rw e

-- ---- what a decoded command is within
served_is : (b₁ b₂ : Bool) (x k : Command) → cond b₁ (Err reasons.CommandLengthWrong) (cond b₂ (Err reasons.FieldInvalid) (Ok x)) ≡ Ok k → x ≡ k
served_is true b₂ x k e = cc
served_is false true x k e = cc
served_is false false x k e = cc

pub served_fields : (o : Operation) (f : Form) (c : List ℕ) (k : Command) → decode_as o f c ≡ Ok k → fields o f c ≡ k
unfolding decode_as
served_fields o f c k h =
    served_is (not (eqb (length c) (layout_of f).bytes)) (is_long f && not (eqb (get_or c 7 0) 0x18)) (fields o f c) k h

number_below : (at w most : ℕ) (c : List ℕ) → w ≤ most → Bytes c → number_at at w c < 256 ^ most
unfolding number_at
number_below at w most c h p =
    lt_of_lt_of_le (number_lt (take w (drop at c)) (part_bytes at w c p))
    (pow-le-pow_right (lit< tt) {i = length (take w (drop at c))} {j = most} (simp length-take (omega arith)))

tag_below : (b : Bool) (x n : ℕ) → x < n → cond b x 0 < n
tag_below true x n h = h
tag_below false x n h = omega arith

check_below : (o : Operation) (p : ℕ) → check_bits o p < 4
check_below Read p = lit< tt
check_below Write p = lit< tt
check_below Verify p = omega arith

pub record Bounded (k : Command) : Type 0 where
  pub code : k.code < 8
  pub check : k.check < 4
  pub address : k.address < 2 ^ 64
  pub length : k.length < 2 ^ 32
  pub tag : tag_of k < 2 ^ 32
  pub application : application_of k < 2 ^ 16
  pub mask : mask_of k < 2 ^ 16

fields_bounded : (o : Operation) (f : Form) (c : List ℕ) → Bytes c → Bounded (fields o f c)
unfolding fields
fields_bounded o f c p =
    let protect = p (layout_of f).protect in
    record {
      code = omega arith;
      check = check_below o _;
      address = number_below _ _ 8 c (within f).addressed p;
      length = number_below _ _ 4 c (within f).lengthened p;
      tag = tag_below (is_long f) _ _ (number_below 20 4 4 c (lit≤ tt) p);
      application = tag_below (is_long f) _ _ (number_below 24 2 2 c (lit≤ tt) p);
      mask = tag_below (is_long f) _ _ (number_below 26 2 2 c (lit≤ tt) p);
    }

bounded_by : (c : List ℕ) (k : Command) (n : Named) → recognise c ≡ n → decode c ≡ Ok k → Bytes c → Bounded k
bounded_by c k (Ok (o, f)) e h p = rw (served_fields o f c k (sym (decode_known c e) ∙ h)) at (fields_bounded o f c p)
bounded_by c k (Err a) e h p =
    let never = decode_unknown c e in
    let z : ◌≡◌ {A = ℕ} 0 1 = cc in absurd (omega arith)

pub served_bounded : (c : List ℕ) (k : Command) → decode c ≡ Ok k → Bytes c → Bounded k
served_bounded c k h p = bounded_by c k (recognise c) refl h p

-- the fields of a 16-byte command with code 001 and byte-check bits 0
pub sixteen_fields : (c : List ℕ) (o : Operation) (a n : ℕ) → get_or c 1 0 / 32 ≡ 0b001 → check_bits o (get_or c 1 0) ≡ 0 → number_at 2 8 c ≡ a
    → number_at 10 4 c ≡ n → fields o Sixteen c ≡ sixteen o a n
unfolding fields sixteen
sixteen_fields c o a n code check address blocks = rw (code, check, address, blocks) refl
