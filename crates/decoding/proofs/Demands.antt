-- "No other bit changes an answer."; byte-check bits, of VERIFY alone; what a 16-byte command with code 001 asks.
-- Assumes nothing.
use Rattle.std.specs.Prelude.{Ok, Err}
use mathlib.Core.Path.{◌≡◌, refl, sym, ap, ◌∙◌}
use mathlib.Core.Bool.{Bool, true, false, not, ◌&&◌, cond, true≢false}
use mathlib.Core.List.{List}
use Prim.Native.Nat.{ℕ, ◌/◌}
use native.Mathlib.Omega.{arith}
use borrow.Author.Tests.{eqb-true}
use lib.Dec.{eqb, ltb}
use lib.ListN.{length, get_or}
use Rattle.words.specs.BigEndian.{number_at, number}
use Rattle.answer.specs.declared.Reason.TheVariants as reasons
use Rattle.command.specs.declared.Operation.{Operation}
use Rattle.command.specs.declared.Operation.TheVariants.{Read, Write, Verify}
use Rattle.command.specs.declared.Command.{Command}
use Rattle.command.specs.Sixteen.{sixteen}
use Rattle.decoding.specs.declared.Form.{Form}
use Rattle.decoding.specs.declared.Form.TheVariants.{Sixteen}
use Rattle.decoding.specs.Commands.{is_long, tags, check_bits, find, byte_zero, service_action, recognise, fields, decode_as, decode, Named}
use Rattle.decoding.specs.Bits.{SameAt, SameColumns, SameCommand}
use Rattle.decoding.proofs.Laws.{decode_served, decode_known, decode_unknown, served_fields, sixteen_fields}

same_number : (at n : ℕ) (c c' : List ℕ) → SameAt at n c c' → number_at at n c ≡ number_at at n c'
unfolding number_at
same_number at n c c' e = ap number e

-- what only the 32-byte form has
same_long : (b : Bool) (x y : ℕ) → (b ≡ true → x ≡ y) → cond b x 0 ≡ cond b y 0
same_long true x y e = e refl
same_long false x y e = refl

same_seven : (b : Bool) (x y : ℕ) → (b ≡ true → x ≡ y) → (b && not (eqb x 0x18)) ≡ (b && not (eqb y 0x18))
same_seven true x y e = rw (e refl) refl
same_seven false x y e = refl

module _ (o : Operation) (f : Form) (c c' : List ℕ) (s : SameColumns o f c c') where
  same_tags : tags f c ≡ tags f c'
  same_tags =
      rw (
        same_long (is_long f) (number_at 20 4 c) (number_at 20 4 c') (λ l. same_number 20 4 c c' (s.tag l)),
        same_long (is_long f) (number_at 24 2 c) (number_at 24 2 c') (λ l. same_number 24 2 c c' (s.application l)),
        same_long (is_long f) (number_at 26 2 c) (number_at 26 2 c') (λ l. same_number 26 2 c c' (s.mask l)),
      ) refl

  same_fields : fields o f c ≡ fields o f c'
  unfolding fields
  same_fields =
      rw (
        s.code,
        s.check,
        same_number _ _ c c' s.address,
        same_number _ _ c c' s.blocks,
        same_tags,
      ) refl

  same_decoded : decode_as o f c ≡ decode_as o f c'
  unfolding decode_as
  same_decoded = rw (s.long, same_seven (is_long f) (get_or c 7 0) (get_or c' 7 0) s.seven, same_fields) refl

-- the operation and the form are in byte 0 and, for 7Fh, the service action; no other byte is looked at for them
pub same_operation : (c c' : List ℕ) → length c ≡ length c' → get_or c 0 0 ≡ get_or c' 0 0 → (get_or c' 0 0 ≡ 0x7F → SameAt 8 2 c c')
    → recognise c ≡ recognise c'
unfolding recognise
same_operation c c' long zeroth action = rw (long, zeroth) (by (eqb (get_or c' 0 0) 0x7F) refl)
  where
    empty : Bool
    empty = eqb (length c') 0

    short : Bool
    short = ltb (length c') 10

    by : (b : Bool) → eqb (get_or c' 0 0) 0x7F ≡ b
        → cond empty (Err reasons.CommandLengthWrong) (cond b (cond short (Err reasons.CommandLengthWrong) (find (number_at 8 2 c) service_action)) (find (get_or c' 0 0) byte_zero))
        ≡ cond empty (Err reasons.CommandLengthWrong) (cond b (cond short (Err reasons.CommandLengthWrong) (find (number_at 8 2 c') service_action)) (find (get_or c' 0 0) byte_zero))
    by true e = rw (same_number 8 2 c c' (action (eqb-true (get_or c' 0 0) 0x7F e))) refl
    by false e = refl

-- commands that ask for the same operation in the same form, and are the same in the table's columns, ask the same
pub no_other_bit : (c c' : List ℕ) (o : Operation) (f : Form) → recognise c ≡ Ok (o, f) → recognise c' ≡ Ok (o, f) → SameColumns o f c c'
    → decode c ≡ decode c'
no_other_bit c c' o f e e' s = decode_known c e ∙ same_decoded o f c c' s ∙ sym (decode_known c' e')

-- commands whose operation is not served, or not to be seen, are refused alike, whatever else they hold
pub not_served_alike : (c c' : List ℕ) → recognise c ≡ recognise c' → ((o : Operation) (f : Form) → recognise c ≡ Ok (o, f) → ⊥) → decode c ≡ decode c'
not_served_alike c c' e n = by (recognise c) refl
  where
    by : (x : Named) → recognise c ≡ x → decode c ≡ decode c'
    by (Ok (o, f)) k = absurd (n o f k)
    by (Err a) k = decode_unknown c k ∙ sym (decode_unknown c' (sym e ∙ k))

-- both in one: such commands are read alike
pub same_command : (c c' : List ℕ) → SameCommand c c' → decode c ≡ decode c'
same_command c c' s = by (recognise c) refl
  where
    alike : recognise c ≡ recognise c'
    alike = same_operation c c' s.long s.zeroth (λ e. s.action (s.zeroth ∙ e))

    by : (x : Named) → recognise c ≡ x → decode c ≡ decode c'
    by (Ok (o, f)) k = no_other_bit c c' o f k (sym alike ∙ k) (s.columns o f k)
    by (Err a) k = decode_unknown c k ∙ sym (decode_unknown c' (sym alike ∙ k))

-- "VERIFY has byte-check bits": the others have none, and are asked with 0
no_bits : (o : Operation) (p : ℕ) → (o ≡ Verify → ⊥) → check_bits o p ≡ 0
no_bits Read p n = refl
no_bits Write p n = refl
no_bits Verify p n = absurd (n refl)

bits_by : (c : List ℕ) (k : Command) (n : Named) → recognise c ≡ n → decode c ≡ Ok k → (k.operation ≡ Verify → ⊥) → k.check ≡ 0
unfolding fields
bits_by c k (Ok (o, f)) e h n =
    let same = served_fields o f c k (sym (decode_known c e) ∙ h) in
    ap (λ (x : Command). x.check) (sym same) ∙ no_bits o _ (λ v. n (ap (λ (x : Command). x.operation) (sym same) ∙ v))
bits_by c k (Err a) e h n =
    let never = decode_unknown c e in
    let z : ◌≡◌ {A = ℕ} 0 1 = cc in absurd (omega arith)

pub verify_alone_has_bits : (c : List ℕ) (k : Command) → decode c ≡ Ok k → (k.operation ≡ Verify → ⊥) → k.check ≡ 0
verify_alone_has_bits c k h n = bits_by c k (recognise c) refl h n

-- the bytes of a 16-byte command with code 001 and byte-check bits 0 are decoded to `sixteen` of its operation, address and length
module _ (c : List ℕ) (o : Operation) (a n : ℕ) (code : get_or c 1 0 / 32 ≡ 0b001) (check : check_bits o (get_or c 1 0) ≡ 0)
    (address : number_at 2 8 c ≡ a) (blocks : number_at 10 4 c ≡ n) where
  pub sixteen_decoded : recognise c ≡ Ok (o, Sixteen) → length c ≡ 16 → decode c ≡ Ok (sixteen o a n)
  sixteen_decoded e long =
      decode_known c e ∙ decode_served o Sixteen c long (λ l. absurd (true≢false (sym l))) ∙ ap Ok (sixteen_fields c o a n code check address blocks)
