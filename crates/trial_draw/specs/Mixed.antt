-- One step of a xorshift generator of 64 bits.
use Rattle.std.specs.Prelude.{ℕ, ◌*◌, ◌/◌, ◌%◌, ◌^◌}
use Rattle.std.specs.Int.Bits.{bit_xor}

abbrev pub mixed_up : ℕ → ℕ → ℕ
mixed_up n x = bit_xor x (x * 2 ^ n % 2 ^ 64)

abbrev pub mixed_down : ℕ → ℕ → ℕ
mixed_down n x = bit_xor x (x / 2 ^ n)

abbrev pub next_state : ℕ → ℕ
next_state x = mixed_up 17 (mixed_down 7 (mixed_up 13 x))
