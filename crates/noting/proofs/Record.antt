-- A record written in parts.
use Rattle.std.specs.Prelude.{◌<◌, ◌≤◌, map, take, drop, ◌≡◌, refl, ℕ, suc, ◌+◌, ◌*◌, ◌-◌, List, [], ◌∷◌, ◌++◌, ℤ, pos, length, set, replicate}
use Rattle.std.proofs.Common.{sym, ◌∙◌, ap, arith, append_assoc}
use Rattle.std.proofs.lemmas.List.{replicate-append-replicate}
use mathlib.Core.List.{append-nil}
use lib.ListN.{length-append, drop_of_length-le}
use lib.Seq.{take_at, drop_at}
use Rattle.std.proofs.lemmas.List.Edits.{sets}
use Rattle.std.proofs.Common.{get_or}
use Rattle.std.proofs.Math.Seq.{take-suc, length-take-le}
use Rattle.std.proofs.lemmas.List.{length-map, map-append}
use Rattle.noting.specs.declared.Was.{Was}
use Rattle.noting.specs.Meaning.{held_of, row_of_state}
use Rattle.row.specs.declared.State.{State}
use Rattle.definition.specs.Calls.{row_of}
use Rattle.journal.specs.Writes.{Held}
use Rattle.journal.specs.Journal.{numbers}

-- ---- some numbers put over as many, behind others

sets_cons : (vs : List ℤ) (x : ℤ) (l : List ℤ) (i : ℕ) → sets (x ∷ l) (suc i) vs ≡ x ∷ sets l i vs
sets_cons [] x l i = refl
sets_cons (v ∷ vs) x l i = sets_cons vs x (set l i v) (suc i)

sets_front : (vs zs ys : List ℤ) → length zs ≡ length vs → sets (zs ++ ys) 0 vs ≡ vs ++ ys
sets_front [] [] ys h = refl
sets_front [] (z ∷ zs) ys h = absurd (omega arith)
sets_front (v ∷ vs) [] ys h = absurd (omega arith)
sets_front (v ∷ vs) (z ∷ zs) ys h = sets_cons vs v (zs ++ ys) 0 ∙ ap (λ (t : List ℤ). v ∷ t) (sets_front vs zs ys (omega arith))

sets_behind : (xs vs zs ys : List ℤ) → length zs ≡ length vs → sets (xs ++ (zs ++ ys)) (length xs) vs ≡ xs ++ (vs ++ ys)
sets_behind [] vs zs ys h = sets_front vs zs ys h
sets_behind (x ∷ xs) vs zs ys h = sets_cons vs x (xs ++ (zs ++ ys)) (length xs) ∙ ap (λ (t : List ℤ). x ∷ t) (sets_behind xs vs zs ys h)

-- ---- a record's cells

numbers_append : (xs ys : List Held) → numbers (xs ++ ys) ≡ numbers xs ++ numbers ys
unfolding numbers
numbers_append [] ys = refl
numbers_append (x ∷ xs) ys = ap (λ (t : List ℤ). pos x.address ∷ x.cell.tag ∷ x.cell.first ∷ x.cell.second ∷ t) (numbers_append xs ys)

numbers_length : (xs : List Held) → length (numbers xs) ≡ 4 * length xs
unfolding numbers
numbers_length [] = refl
numbers_length (x ∷ xs) = let h = numbers_length xs in omega arith

zeros : (k : ℕ) → replicate (4 + k) (pos 0) ≡ (pos 0 ∷ pos 0 ∷ pos 0 ∷ pos 0 ∷ []) ++ replicate k (pos 0)
zeros k = sym (replicate-append-replicate 4 k (pos 0))

-- n cells are to come, of which those of xs are put, and x comes next
pub cell_put : (a : ℤ) (xs : List Held) (x : Held) (k : ℕ) → sets (a ∷ (numbers xs ++ replicate (4 + k) (pos 0))) (1 + 4 * length xs) (numbers (x ∷ [])) ≡ a ∷ (numbers (xs ++ x ∷ []) ++ replicate k (pos 0))
cell_put a xs x k =
    let z : 1 + 4 * length xs ≡ suc (length (numbers xs)) = let h = numbers_length xs in omega arith in
    let e : numbers (xs ++ x ∷ []) ++ replicate k (pos 0) ≡ numbers xs ++ (numbers (x ∷ []) ++ replicate k (pos 0)) = ap (λ (t : List ℤ). t ++ replicate k (pos 0)) (numbers_append xs (x ∷ [])) ∙ append_assoc (numbers xs) (numbers (x ∷ [])) (replicate k (pos 0)) in
    let four : 4 ≡ length (numbers (x ∷ [])) = sym (numbers_length (x ∷ [])) in
    ap (λ (n : ℕ). sets (a ∷ (numbers xs ++ replicate (4 + k) (pos 0))) n (numbers (x ∷ []))) z
    ∙ ap (λ (r : List ℤ). sets (a ∷ (numbers xs ++ r)) (suc (length (numbers xs))) (numbers (x ∷ []))) (zeros k)
    ∙ sets_behind (a ∷ numbers xs) (numbers (x ∷ [])) (pos 0 ∷ pos 0 ∷ pos 0 ∷ pos 0 ∷ []) (replicate k (pos 0)) four
    ∙ ap (λ (t : List ℤ). a ∷ t) (sym e)

-- the first of at most four cells are put
abbrev pub put_so_far : ℤ → List Was → ℕ → List ℤ
put_so_far a ws i = a ∷ (numbers (map held_of (take i ws)) ++ replicate (16 - 4 * i) (pos 0))

pub next_put : (a : ℤ) (ws : List Was) (i : ℕ) (d : Was) → i < length ws → length ws ≤ 4 → sets (put_so_far a ws i) (1 + 4 * i) (numbers (held_of (get_or ws i d) ∷ [])) ≡ put_so_far a ws (i + 1)
next_put a ws i d h few =
    let w : Was = get_or ws i d in
    let long : length (map held_of (take i ws)) ≡ i = length-map (take i ws) held_of ∙ length-take-le i ws (omega arith) in
    let k : 16 - 4 * i ≡ 4 + (16 - 4 * (i + 1)) = omega arith in
    let s : suc i ≡ i + 1 = omega arith in
    let more : map held_of (take (i + 1) ws) ≡ map held_of (take i ws) ++ held_of w ∷ [] =
    ap (λ (n : ℕ). map held_of (take n ws)) (sym s) ∙ ap (map held_of) (take-suc ws i d h) ∙ map-append held_of (take i ws) (w ∷ []) in
    ap (λ (n : ℕ). sets (a ∷ (numbers (map held_of (take i ws)) ++ replicate n (pos 0))) (1 + 4 * i) (numbers (held_of w ∷ []))) k
    ∙ ap (λ (n : ℕ). sets (a ∷ (numbers (map held_of (take i ws)) ++ replicate (4 + (16 - 4 * (i + 1))) (pos 0))) (1 + 4 * n) (numbers (held_of w ∷ []))) (sym long)
    ∙ cell_put a (map held_of (take i ws)) (held_of w) (16 - 4 * (i + 1))
    ∙ ap (λ (x : List Held). a ∷ (numbers x ++ replicate (16 - 4 * (i + 1)) (pos 0))) (sym more)

-- ---- the row in the first 20 numbers, then the rest behind it

pub row-length : (m : State) → length (row_of_state m) ≡ 20
unfolding row_of
row-length m = refl

pub parts_are : (l row cs : List ℤ) → length row ≡ 20 → take 20 (row ++ drop 20 l) ++ (cs ++ drop (length (row ++ drop 20 l) - 20) (drop 20 (row ++ drop 20 l))) ≡ row ++ cs
parts_are l row cs k =
    let n = length-append row (drop 20 l) in
    let rest : drop 20 (row ++ drop 20 l) ≡ drop 20 l = drop_at row (drop 20 l) 20 k in
    let none : drop (length (row ++ drop 20 l) - 20) (drop 20 (row ++ drop 20 l)) ≡ [] = ap (drop (length (row ++ drop 20 l) - 20)) rest ∙ drop_of_length-le (drop 20 l) {i = length (row ++ drop 20 l) - 20} (omega arith) in
    let front : take 20 (row ++ drop 20 l) ≡ row = take_at row (drop 20 l) 20 k in
    (λ i. front i ++ (cs ++ none i)) ∙ ap (λ (t : List ℤ). row ++ t) (append-nil cs)
