-- An operation by its opcode: what holds of the opcodes of a class holds of every operation whose opcode is one of them.
use Rattle.std.proofs.Common.{◌≡◌, ℕ, ◌≤◌, Bool, true, false, cond, ◌||◌, eqb, [], ◌∷◌, sym, refl, ap, ◌∙◌, subst, true≢false, arith, eq-eqb, ne_eqb}
use borrow.Author.Tests.{eqb-false}
use Rattle.integer.proofs.Booleans.{neither}
use Rattle.arithmetic.specs.Opcodes.{first_integer, member}
use Rattle.arithmetic.specs.Operands.{divides}
use Rattle.operation.specs.declared.layout.Varnode.{Varnode}
use Rattle.operation.specs.Rules.{accesses, branches, jumps}
use Rattle.operation.specs.Layout.{absent}
use Rattle.machine.specs.Effect.{Operation}
use Rattle.machine.proofs.Conditions.{when, no_division}
use Rattle.run_plan.specs.declared.Class.{Class}
use Rattle.run_plan.specs.declared.Class.TheVariants.{Access, Branch, Data}
use Rattle.run_plan.specs.Plans.{class_of}

abbrev pub operation : (opcode : ℕ) (output input0 input1 input2 : Varnode) → Operation
operation opcode output input0 input1 input2 = record { opcode = opcode; output = output; input0 = input0; input1 = input1; input2 = input2 }

-- a test of the opcode n that the code decoded is one of the operation's
pub of_opcode : (g : ℕ → Bool) {n k : ℕ} {x t : Bool} → n ≡ k → x ≡ g n → x ≡ t → g k ≡ t
of_opcode g e ex h = ap g (sym e) ∙ sym ex ∙ h

pub opcode_is : {n k : ℕ} (m : ℕ) → n ≡ k → n ≡ m → eqb k m ≡ true
opcode_is {n} {k} m e h = eq-eqb k m (sym e ∙ h)

pub opcode_is_not : {n k : ℕ} (m : ℕ) → n ≡ k → (n ≡ m → ⊥) → eqb k m ≡ false
opcode_is_not {n} {k} m e h = ne_eqb k m (λ z. h (e ∙ z))

-- the divisions, told as a range and one by one
pub divides-member : (n : ℕ) → divides n ≡ member n (35 ∷ 36 ∷ 37 ∷ 38 ∷ [])
unfolding divides member
divides-member n =
    when n 35 (λ e. rw e refl) (λ n35. when n 36 (λ e. rw e refl) (λ n36. when n 37 (λ e. rw e refl) (λ n37. when n 38 (λ e. rw e refl) (λ n38.
    rw (n35, n36, n37, n38) (no_division n n35 n36 n37 n38)))))

-- ---- the opcodes of a class, one by one

pub each_access : (P : ℕ → Type 0) → P 2 → P 3 → (n : ℕ) → accesses n ≡ true → P n
unfolding accesses member
each_access P p2 p3 n a =
    when n 2 (λ e. subst P (sym e) p2) (λ n2. when n 3 (λ e. subst P (sym e) p3) (λ n3. absurd (true≢false (sym (rw (n2, n3) at a)))))

pub each_branch : (P : ℕ → Type 0) → P 4 → P 5 → P 7 → (n : ℕ) → branches n ≡ true → P n
unfolding branches member
each_branch P p4 p5 p7 n b =
    when n 4 (λ e. subst P (sym e) p4) (λ n4. when n 5 (λ e. subst P (sym e) p5) (λ n5. when n 7 (λ e. subst P (sym e) p7) (λ n7.
    absurd (true≢false (sym (rw (n4, n5, n7) at b))))))

pub each_jump : (P : ℕ → Type 0) → P 6 → P 8 → P 9 → (n : ℕ) → jumps n ≡ true → P n
unfolding jumps member
each_jump P p6 p8 p9 n j =
    when n 6 (λ e. subst P (sym e) p6) (λ n6. when n 8 (λ e. subst P (sym e) p8) (λ n8. when n 9 (λ e. subst P (sym e) p9) (λ n9.
    absurd (true≢false (sym (rw (n6, n8, n9) at j))))))

pub access_no_branch : (n : ℕ) → accesses n ≡ true → branches n ≡ false
unfolding branches member
access_no_branch n a = each_access (λ k. branches k ≡ false) refl refl n a

-- what the class of the opcode n that the code decoded says of the operation's
class_as : {n k : ℕ} {c t : Class} → n ≡ k → c ≡ class_of n → c ≡ t → class_of k ≡ t
class_as e ec h = ap class_of (sym e) ∙ sym ec ∙ h

pub class_access : {n k : ℕ} {c : Class} → n ≡ k → c ≡ class_of n → c ≡ Access → accesses k ≡ true
class_access {n} {k} e ec h = by (accesses k) (branches k) (class_as e ec h)
  where
    by : (a b : Bool) → cond a Access (cond b Branch Data) ≡ Access → a ≡ true
    by true b z = refl
    by false true z = cc
    by false false z = cc

pub class_branch : {n k : ℕ} {c : Class} → n ≡ k → c ≡ class_of n → c ≡ Branch → branches k ≡ true
class_branch {n} {k} e ec h = by (accesses k) (branches k) (class_as e ec h)
  where
    by : (a b : Bool) → cond a Access (cond b Branch Data) ≡ Branch → b ≡ true
    by a true z = refl
    by true false z = cc
    by false false z = cc

pub class_data : {n k : ℕ} {c : Class} → n ≡ k → c ≡ class_of n → c ≡ Data → (accesses k ≡ false) × (branches k ≡ false)
class_data {n} {k} e ec h = by (accesses k) (branches k) (class_as e ec h)
  where
    by : (a b : Bool) → cond a Access (cond b Branch Data) ≡ Data → (a ≡ false) × (b ≡ false)
    by true b z = cc
    by false true z = cc
    by false false z = (refl, refl)

-- from the first integer operation on there is none of them
pub late_no_access : (n : ℕ) → first_integer ≤ n → accesses n ≡ false
unfolding accesses member
late_no_access n l = rw (ne_eqb n 2 (λ e. omega arith), ne_eqb n 3 (λ e. omega arith)) refl

pub late_no_branch : (n : ℕ) → first_integer ≤ n → branches n ≡ false
unfolding branches member
late_no_branch n l = rw (ne_eqb n 4 (λ e. omega arith), ne_eqb n 5 (λ e. omega arith), ne_eqb n 7 (λ e. omega arith)) refl

pub late_no_jump : (n : ℕ) → first_integer ≤ n → jumps n ≡ false
unfolding jumps member
late_no_jump n l = rw (ne_eqb n 6 (λ e. omega arith), ne_eqb n 8 (λ e. omega arith), ne_eqb n 9 (λ e. omega arith)) refl

module _ (P : Operation → Type 0) (op : Operation) where
  abbrev With : Varnode → ℕ → Type 0
  With output n = P (operation n output op.input0 op.input1 op.input2)

  pub by_access : accesses op.opcode ≡ true → With op.output 2 → With op.output 3 → P op
  by_access a p2 p3 = each_access (With op.output) p2 p3 op.opcode a

  pub by_jump : jumps op.opcode ≡ true → With op.output 6 → With op.output 8 → With op.output 9 → P op
  by_jump j p6 p8 p9 = each_jump (With op.output) p6 p8 p9 op.opcode j

  -- a branch has no output
  pub by_branch : branches op.opcode ≡ true → op.output ≡ absent → With absent 4 → With absent 5 → With absent 7 → P op
  by_branch b a p4 p5 p7 = subst (λ (v : Varnode). With v op.opcode) (sym a) (each_branch (With absent) p4 p5 p7 op.opcode b)

-- ---- an opcode that is none of a class

pub record NoAccess (n : ℕ) : Type 0 where
  pub n2 : eqb n 2 ≡ false
  pub n3 : eqb n 3 ≡ false

pub no_access : (n : ℕ) → accesses n ≡ false → NoAccess n
unfolding accesses member
no_access n a =
    let a2 = neither (eqb n 2) (eqb n 3 || false) a in
    record { n2 = a2.0; n3 = (neither (eqb n 3) false a2.1).0 }

pub record NoBranch (n : ℕ) : Type 0 where
  pub n4 : eqb n 4 ≡ false
  pub n5 : eqb n 5 ≡ false
  pub n7 : eqb n 7 ≡ false

pub no_branch : (n : ℕ) → branches n ≡ false → NoBranch n
unfolding branches member
no_branch n b =
    let b4 = neither (eqb n 4) (eqb n 5 || (eqb n 7 || false)) b in
    let b5 = neither (eqb n 5) (eqb n 7 || false) b4.1 in
    record { n4 = b4.0; n5 = b5.0; n7 = (neither (eqb n 7) false b5.1).0 }

pub record NoJump (n : ℕ) : Type 0 where
  pub n6 : eqb n 6 ≡ false
  pub n8 : eqb n 8 ≡ false
  pub n9 : eqb n 9 ≡ false

pub no_jump : (n : ℕ) → jumps n ≡ false → NoJump n
unfolding jumps member
no_jump n j =
    let j6 = neither (eqb n 6) (eqb n 8 || (eqb n 9 || false)) j in
    let j8 = neither (eqb n 8) (eqb n 9 || false) j6.1 in
    record { n6 = j6.0; n8 = j8.0; n9 = (neither (eqb n 9) false j8.1).0 }

-- none of the first nine
five : (n : ℕ) → 1 ≤ n → (n ≡ 1 → ⊥) → (n ≡ 2 → ⊥) → (n ≡ 3 → ⊥) → (n ≡ 4 → ⊥) → 5 ≤ n
five n l n1 n2 n3 n4 = omega arith

ten_from : (n : ℕ) → 5 ≤ n → (n ≡ 5 → ⊥) → (n ≡ 6 → ⊥) → (n ≡ 7 → ⊥) → (n ≡ 8 → ⊥) → (n ≡ 9 → ⊥) → first_integer ≤ n
ten_from n l n5 n6 n7 n8 n9 = omega arith

pub late : (n : ℕ) → 1 ≤ n → (n ≡ 1 → ⊥) → accesses n ≡ false → branches n ≡ false → jumps n ≡ false → first_integer ≤ n
late n l n1 a b j =
    let na = no_access n a in
    let nb = no_branch n b in
    let nj = no_jump n j in
    ten_from n (five n l n1 (eqb-false n 2 na.n2) (eqb-false n 3 na.n3) (eqb-false n 4 nb.n4))
    (eqb-false n 5 nb.n5) (eqb-false n 6 nj.n6) (eqb-false n 7 nb.n7) (eqb-false n 8 nj.n8) (eqb-false n 9 nj.n9)
