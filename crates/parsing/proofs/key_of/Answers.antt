-- `parsing::key_of` meets its contract. The loop keeps an equation: the digits that are left, behind the key so far, give the key.
-- Assumes nothing.
use mathlib.Core.Path.{◌≡◌, sym, ◌∙◌}
use mathlib.Core.List.{List}
use Prim.Native.Nat.{ℕ, ◌+◌, ◌-◌, ◌*◌, ◌<◌}
use native.Mathlib.Omega.{arith}
use lib.ListN.{length, get_or, take, drop, length-drop}
use lib.Seq.{get_or-drop}
use Rattle.base.proofs.ListLaws.{within_l}
use Rattle.base.proofs.Parts.{whole_part}
use Rattle.names.specs.Names.{name_length, value_from}
use Rattle.names.proofs.RefusalLaws.{Formed}
use Rattle.names.proofs.ReadLaws.{is-letter, is_digit}
use Rattle.parsing.specs.Keys.{key_of}
use Rattle.parsing.proofs.KeyLaws.{value-least, key_bound, key_begins, key_digit, key_end}
use Rattle.parsing.proofs.key_of.Goals as goal

-- one digit more keeps the key what it is, and so below the bound
more : (name : List ℕ) (key place : ℕ) → Formed name → place < name_length → key_of name ≡ value_from key (drop place name) →
    let next : ℕ = 10 * key + (get_or name place 0 - 48) in
    (key_of name ≡ value_from next (drop (place + 1) name)) × (next < 24000000)
more name key place f h told =
    let e = told ∙ key_digit name f.long key place h in
    (e, omega (arith, e, key_bound name f, value-least (10 * key + (get_or name place 0 - 48)) (drop (place + 1) name)))

-- the digits are those behind the letter
digit_is : (name : List ℕ) (i : ℕ) → get_or (take (length name - 5) (drop 5 name)) i 0 ≡ get_or name (5 + i) 0
digit_is name i = rw (whole_part 5 name) (get_or-drop 5 name i 0)

digit-count : (name : List ℕ) → length name ≡ name_length → length (take (length name - 5) (drop 5 name)) ≡ 6
digit-count name long = rw (whole_part 5 name) (simp length-drop (omega arith))

pub overflow_sub-name : goal.overflow_sub-name
overflow_sub-name c = within_l _ _ _ (is-letter c.args.name.now c.requires.1)

pub loop-digit-init : goal.loop-digit-init
loop-digit-init c = rw c.from-key.ensures (key_begins c.args.name.now c.requires.0)

pub overflow_mul-key : goal.overflow_mul-key
overflow_mul-key c =
    let l = c.loop-digit in
    let name = c.args.name.now in
    omega (arith, (more name l.key (5 + l.digit-index) (record { long = c.requires.0; placed = c.requires.1 }) (omega (arith, digit-count name c.requires.0)) l.invariant).1)

pub overflow_sub-digit : goal.overflow_sub-digit
overflow_sub-digit c =
    let name = c.args.name.now in
    let i = c.loop-digit.digit-index in
    let digit = within_l _ _ _ (is_digit name c.requires.1 (5 + i) (omega arith) (omega (arith, digit-count name c.requires.0))) in
    omega (arith, digit, digit_is name i)

pub overflow_add-key : goal.overflow_add-key
overflow_add-key c =
    let l = c.loop-digit in
    let name = c.args.name.now in
    omega (arith, c.from.ensures, digit_is name l.digit-index, (more name l.key (5 + l.digit-index) (record { long = c.requires.0; placed = c.requires.1 }) (omega (arith, digit-count name c.requires.0)) l.invariant).1)

pub loop-digit-preserved : goal.loop-digit-preserved
loop-digit-preserved c =
    let l = c.loop-digit in
    let name = c.args.name.now in
    let next : 5 + (l.digit-index + 1) ≡ 5 + l.digit-index + 1 = omega arith in
    rw (c.from.ensures, digit_is name l.digit-index, next) (more name l.key (5 + l.digit-index) (record { long = c.requires.0; placed = c.requires.1 }) (omega (arith, digit-count name c.requires.0)) l.invariant).0

pub returns : goal.returns
returns c =
    let name = c.args.name.now in
    let l = c.loop-digit in
    let e = l.invariant ∙ key_end name c.requires.0 l.key (5 + l.digit-index) (omega (arith, digit-count name c.requires.0)) in
    (sym e, omega (arith, e, key_bound name (record { long = c.requires.0; placed = c.requires.1 })))
