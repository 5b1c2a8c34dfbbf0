-- The algebras of reach, cost and depth. Assumes nothing.
use Rattle.std.specs.Prelude.{ℕ, ◌+◌, min, max, Bool, true, false, ◌&&◌, ◌||◌, nat_le}
use Rattle.kleene.specs.Algebras.{Meaning}

-- whether there is a route: no or yes, with or and and
abbrev pub reach_meaning : Meaning Bool
reach_meaning = record {
  member = λ a. true;
  on = record {
    zero = false;
    one = true;
    sum = λ a b. a || b;
    product = λ a b. a && b;
    star = λ a. true;
  };
}

-- the cheapest route in render seconds: the smaller, and the ordinary sum held at 4,294,967,295, which stands for none
abbrev pub cost_meaning : Meaning ℕ
cost_meaning = record {
  member = λ a. nat_le a 4294967295;
  on = record {
    zero = 4294967295;
    one = 0;
    sum = λ a b. min a b;
    product = λ a b. min (a + b) 4294967295;
    star = λ a. 0;
  };
}

-- the bit depth that survives: the larger of two routes, the smaller of two steps
abbrev pub depth_meaning : Meaning ℕ
depth_meaning = record {
  member = λ a. nat_le a 255;
  on = record {
    zero = 0;
    one = 255;
    sum = λ a b. max a b;
    product = λ a b. min a b;
    star = λ a. 255;
  };
}
