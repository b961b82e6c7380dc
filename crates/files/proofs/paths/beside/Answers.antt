-- `files::paths::beside` meets its contract: a name that is shorter than the room was put whole.
-- Assumes nothing.
use Rattle.std.proofs.Common.{◌≡◌, ◌<◌, ◌≤◌, ◌++◌, ◌∙◌, ℕ, List, length, take, arith, ap, length-append}
use Rattle.std.proofs.lemmas.List.{length-take, take_all}
use Rattle.files.proofs.paths.beside.Goals as goal

put_whole : (n : ℕ) (path new first second name : List ℕ) → first ≡ take n path → second ≡ take n (first ++ new) →
    name ≡ second → length name < n → second ≡ path ++ new
put_whole n path new first second name e1 e2 e3 h =
    let second_length = simp length-take at (ap length e2) in
    let both : length (first ++ new) ≤ n = omega (arith, second_length, ap length e3) in
    let first_length = simp length-take at (ap length e1) in
    let one : length path ≤ n = omega (arith, first_length, second_length, length-append first new, ap length e3) in
    (e2 ∙ take_all n (first ++ new) both) ∙ ap (λ (s : List ℕ). s ++ new) (e1 ∙ take_all n path one)

pub returns : goal.returns
returns c = put_whole 4096 _ _ _ _ _ (rw c.new-name.ensures at c.put.ensures) c.put-2.ensures c.as_bytes.ensures c.in_ok-check_name.ensures
