-- Parts of a slice, as the code lends them: `&s[a..]` and `&s[a..e]`. Assumes nothing.
use Rattle.std.proofs.Common.{◌≡◌, ℕ, ◌+◌, ◌-◌, ◌≤◌, List, ◌++◌, length, take, drop, sym, ap, ◌∙◌, arith, length-drop, length-take-le, take_all, take-add, drop_at}
use Rattle.std.proofs.Math.Seq.{slice}

pub part_rest : (s : List ℕ) (a : ℕ) → take (length s - a) (drop a s) ≡ drop a s
part_rest s a = take_all (length s - a) (drop a s) (omega (arith, length-drop a s))

pub part_slice : (s : List ℕ) (a e : ℕ) → a ≤ e → e ≤ length s → take (e - a) (drop a s) ≡ slice a e s
part_slice s a e h l =
    let split : e ≡ a + (e - a) = omega arith in
    let front : take e s ≡ take a s ++ take (e - a) (drop a s) = ap (λ (k : ℕ). take k s) split ∙ take-add a (e - a) s in
    sym (ap (drop a) front ∙ drop_at (take a s) (take (e - a) (drop a s)) a (length-take-le a s (omega arith)))
