-- Bytes and lines that are written one behind another.
use Rattle.std.proofs.Common.{◌≡◌, ℕ, ◌+◌, ◌/◌, ◌%◌, ◌<◌, ◌≤◌, List, [], ◌∷◌, ◌++◌, length, take, drop, sym, refl, ap, ◌∙◌, subst, append_assoc, append-nil, add-zero, add-one, arith, length-append}
use Rattle.std.proofs.lemmas.List.{take_at, drop_at, drop-drop, length-take-le, take-append-drop}
use Rattle.records.specs.declared.kind.Kind.{Kind}
use Rattle.records.specs.declared.kind.Kind.TheVariants.{Head, Core, Task, Need, Slots, End}
use Rattle.records.specs.Wire.{word, number_of, record_bytes}
use Rattle.order_writer.specs.declared.output.Output.{Output}
use Rattle.orders.specs.Encoding.{Line, line, bytes_of, each}
use Rattle.orders.proofs.Lines.{bytes-join}
use Rattle.order_writer.specs.Writing.{pasted, Put}
use Rattle.order_writer.specs.Outputs.{Appended, Continued}

-- a paste behind a paste is one paste
pub pasted-more : (out : List ℕ) (at : ℕ) (xs ys : List ℕ) → at ≤ length out → pasted (pasted out at xs) (at + length xs) ys ≡ pasted out at (xs ++ ys)
pasted-more out at xs ys inside =
    let p = take at out in
    let mid = at + length xs in
    let rest = drop mid out in
    let whole : pasted out at xs ≡ (p ++ xs) ++ rest = sym (append_assoc p xs rest) in
    let long : length (p ++ xs) ≡ mid = omega (arith, length-append p xs, length-take-le at out inside) in
    let far : mid + length ys ≡ at + length (xs ++ ys) = omega (arith, length-append xs ys) in
    let behind : drop (mid + length ys) ((p ++ xs) ++ rest) ≡ drop (at + length (xs ++ ys)) out =
    sym (drop-drop (length ys) mid ((p ++ xs) ++ rest)) ∙ ap (drop (length ys)) (drop_at (p ++ xs) rest mid long) ∙ drop-drop (length ys) mid out ∙ ap (λ n. drop n out) far in
    let end = drop (at + length (xs ++ ys)) out in
    ap (λ o. pasted o mid ys) whole
    ∙ ap (λ l. l ++ (ys ++ drop (mid + length ys) ((p ++ xs) ++ rest))) (take_at (p ++ xs) rest mid long)
    ∙ ap (λ l. (p ++ xs) ++ (ys ++ l)) behind
    ∙ append_assoc p xs (ys ++ end)
    ∙ ap (λ l. p ++ l) (sym (append_assoc xs ys end))

pub pasted-none : (out : List ℕ) (at : ℕ) → pasted out at [] ≡ out
pasted-none out at = ap (λ n. take at out ++ drop n out) (add-zero at) ∙ take-append-drop at out

pub length-pasted : (out : List ℕ) (at : ℕ) (xs : List ℕ) → at + length xs ≤ length out → length (pasted out at xs) ≡ length out
length-pasted out at xs inside =
    omega (arith, length-append (take at out) (xs ++ drop (at + length xs) out), length-append xs (drop (at + length xs) out), length-take-le at out (omega arith), length-take-le (at + length xs) out inside, length-drop-sum)
  where
    length-drop-sum : length (take (at + length xs) out) + length (drop (at + length xs) out) ≡ length out
    length-drop-sum = sym (length-append (take (at + length xs) out) (drop (at + length xs) out)) ∙ ap length (take-append-drop (at + length xs) out)

pub put_on : {a b c : List ℕ} {at mid next : ℕ} {xs ys : List ℕ} → Put a b at mid xs → Put b c mid next ys → Put a c at next (xs ++ ys)
put_on {a} {b} {c} {at} {mid} {next} {xs} {ys} first second = record {
  onward = omega (arith, first.onward, second.onward, length-append xs ys);
  fits = λ room.
      second.fits (omega (arith, first.size))
      ∙ ap (λ o. pasted o mid ys) (first.fits (omega (arith, first.onward, second.onward)))
      ∙ ap (λ n. pasted (pasted a at xs) n ys) first.onward
      ∙ pasted-more a at xs ys (omega (arith, first.onward, second.onward));
  size = second.size ∙ first.size;
}

pub continued-none : (out : Output) → Continued out out []
continued-none out = record {
  bytes = record { onward = sym (add-zero out.bytes); fits = λ _. sym (pasted-none out.out.now out.bytes); size = refl };
  counted = sym (add-zero out.records);
  near = omega arith;
  whose = refl;
}

pub continued-on : {a b c : Output} {xs ys : List Line} → Continued a b xs → Continued b c ys → Continued a c (xs ++ ys)
continued-on {a} {b} {c} {xs} {ys} first second =
    let P : List ℕ → Type 0 = λ l. Put a.out.now c.out.now a.bytes c.bytes l in
    record {
      bytes = subst P (sym (bytes-join xs ys)) (put_on first.bytes second.bytes);
      counted = omega (arith, first.counted, second.counted, length-append xs ys);
      near = omega (arith, first.near, second.near);
      whose = second.whose ∙ first.whose;
    }

-- one round more of a loop over numbers
pub continued-each : {a b c : Output} (n : ℕ) (lines : ℕ → List Line) → Continued a b (each n lines) → Continued b c (lines n) → Continued a c (each (n + 1) lines)
continued-each {a} {b} {c} n lines first second =
    let P : List Line → Type 0 = λ l. Continued a c l in
    let more : each (n + 1) lines ≡ each n lines ++ lines n = rw add-one in
    subst P (sym more) (continued-on first second)

-- a small number has its whole value in its low byte
pub word_small : (n : ℕ) → n < 256 → word n ≡ n ∷ 0 ∷ []
word_small n small =
    let low : n % 256 ≡ n = omega arith in
    let high : n / 256 ≡ 0 = omega arith in
    λ i. low i ∷ high i ∷ []

pub number_small : (kind : Kind) → number_of kind < 256
number_small Head = omega arith
number_small Core = omega arith
number_small Task = omega arith
number_small Need = omega arith
number_small Slots = omega arith
number_small End = omega arith

-- the bytes of one line, as they are put
pub line-bytes : (kind : Kind) (body : List ℕ) (long number : ℕ) → length body ≤ 14 → long ≡ 2 + length body → number ≡ number_of kind → bytes_of (line kind body ∷ []) ≡ long ∷ 0 ∷ number ∷ 0 ∷ body
line-bytes kind body long number short is-long is_number =
    append-nil (record_bytes kind body)
    ∙ ap (λ l. l ++ (word (number_of kind) ++ body)) (word_small (2 + length body) (omega arith))
    ∙ ap (λ l. (2 + length body) ∷ 0 ∷ (l ++ body)) (word_small (number_of kind) (number_small kind))
    ∙ (λ i. sym is-long i ∷ 0 ∷ sym is_number i ∷ 0 ∷ body)

-- the head of a line and then the rest of it are the line
pub line-put : {a b c : Output} (kind : Kind) (body front rest : List ℕ) → bytes_of (line kind body ∷ []) ≡ front ++ rest → length body ≤ 14 → Appended a b front → Appended b c rest → Continued a (record { out = c.out; bytes = c.bytes; records = c.records + 1 }) (line kind body ∷ [])
line-put {a} {b} {c} kind body front rest same short first second =
    let P : List ℕ → Type 0 = λ l. Put a.out.now c.out.now a.bytes c.bytes l in
    let whole = subst P (sym same) (put_on first.put second.put) in
    record {
      bytes = whole;
      counted = omega (arith, first.records, second.records);
      near = omega (arith, first.records, second.records, whole.onward, ap length (append-nil (record_bytes kind body)), short);
      whose = second.whose ∙ first.whose;
    }

-- what was put through an output stands where the output lies
pub put-there : {before after there : List ℕ} {next : ℕ} {bytes : List ℕ} → after ≡ there → Put before there 0 next bytes → Put before after 0 next bytes
put-there {before} {after} {there} {next} {bytes} same put = let P : List ℕ → Type 0 = λ l. Put before l 0 next bytes in subst P (sym same) put
