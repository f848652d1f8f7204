-- Where numbers stand, how fractions compare by cross products, and that comparing by either keeps the laws.
use Rattle.std.proofs.Common.{◌≡◌, ℕ, ◌*◌, ◌<◌, ◌≤◌, true, mul-le-mul_right, mul-lt-mul_of_pos_right, le_of_mul-le-mul_right, arith}
use Rattle.std.specs.declared.cmp.Ordering.TheVariants.{Equal, Greater}
use Rattle.std.specs.Ordering.{is_le, ordering_reverse, nat_cmp}
use Rattle.fairness.specs.declared.Share.{Share}
use Rattle.fairness.specs.Laws.{Lawful}
use Rattle.fairness.specs.Even.{counted, even}

pub standing-mirrored : (x y : ℕ) → nat_cmp y x ≡ ordering_reverse (nat_cmp x y)
standing-mirrored x y = grind arith

pub standing-reflexive : (x : ℕ) → nat_cmp x x ≡ Equal
standing-reflexive x = grind arith

pub standing-le : (x y : ℕ) → is_le (nat_cmp x y) ≡ true → x ≤ y
standing-le x y h = grind arith

pub le-standing : (x y : ℕ) → x ≤ y → is_le (nat_cmp x y) ≡ true
le-standing x y h = grind arith

pub greater-above : (x y : ℕ) → x < y → nat_cmp y x ≡ Greater
greater-above x y h = grind arith

-- x over u is at most y over v, and that at most z over w
pub fractions-transitive : (x y z u v w : ℕ) → 0 < v → is_le (nat_cmp (x * v) (y * u)) ≡ true → is_le (nat_cmp (y * w) (z * v)) ≡ true → is_le (nat_cmp (x * w) (z * u)) ≡ true
fractions-transitive x y z u v w pos p q =
    le-standing (x * w) (z * u)
    (le_of_mul-le-mul_right {m = x * w} {n = z * u} {k = v} (omega (arith, mul-le-mul_right w (standing-le (x * v) (y * u) p), mul-le-mul_right u (standing-le (y * w) (z * v) q))) pos)

pub fractions-rising : (x y u : ℕ) → x < y → 0 < u → nat_cmp (y * u) (x * u) ≡ Greater
fractions-rising x y u less pos = greater-above (x * u) (y * u) (mul-lt-mul_of_pos_right less pos)

pub even-lawful : Lawful even
even-lawful = record {
  mirrored = λ a b. standing-mirrored (counted a.total) (counted b.total);
  transitive = λ a b c p q.
      le-standing (counted a.total) (counted c.total)
      (omega (arith, standing-le (counted a.total) (counted b.total) p, standing-le (counted b.total) (counted c.total) q));
  reflexive = λ a. standing-reflexive (counted a.total);
  rising = λ a b same whole less few. greater-above (counted a.total) (counted b.total) (omega arith);
}

-- totals over positive divisors, the same for shares of one task with one whole need
pub fractions-lawful : (over : Share → ℕ) → ((a : Share) → 0 < over a) → ((a b : Share) → a.task ≡ b.task → a.whole_need ≡ b.whole_need → over a ≡ over b)
    → Lawful (λ a b. nat_cmp (counted a.total * over b) (counted b.total * over a))
fractions-lawful over positive alike = record {
  mirrored = λ a b. standing-mirrored (counted a.total * over b) (counted b.total * over a);
  transitive = λ a b c p q. fractions-transitive (counted a.total) (counted b.total) (counted c.total) (over a) (over b) (over c) (positive b) p q;
  reflexive = λ a. standing-reflexive (counted a.total * over a);
  rising = λ a b same whole less few.
      rw (alike a b same whole) (fractions-rising (counted a.total) (counted b.total) (over b) (omega arith) (positive b));
}
