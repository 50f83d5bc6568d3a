-- How far a spot lies from the rectangle of which a segment is a diagonal.
use Rattle.olr_metric.proofs.Common.{ℕ, ◌+◌, ◌*◌, ◌≤◌, arith, ℤ, ◌-ℤ◌, refl, nat_abs, mul-le, Spot, foot, IsBetween, square}
use Rattle.olr_metric.proofs.Feet.{foot_between}

-- the foot is no nearer than the rectangle
pub foot_outside : (p a b : Spot) (x y : ℕ)
    → ((u : ℤ) → IsBetween a.x b.x u → x ≤ nat_abs (p.x -ℤ u))
    → ((u : ℤ) → IsBetween a.y b.y u → y ≤ nat_abs (p.y -ℤ u))
    → x * x + y * y ≤ square (p.x -ℤ (foot p a b).x) + square (p.y -ℤ (foot p a b).y)
foot_outside p a b x y least_x least_y =
    let in_x = least_x (foot p a b).x (foot_between (λ (s : Spot). s.x) (λ a b s e. refl) p a b) in
    let in_y = least_y (foot p a b).y (foot_between (λ (s : Spot). s.y) (λ a b s e. refl) p a b) in
    omega (
      arith,
      mul-le x x (nat_abs (p.x -ℤ (foot p a b).x)) (nat_abs (p.x -ℤ (foot p a b).x)) in_x in_x,
      mul-le y y (nat_abs (p.y -ℤ (foot p a b).y)) (nat_abs (p.y -ℤ (foot p a b).y)) in_y in_y,
    )
