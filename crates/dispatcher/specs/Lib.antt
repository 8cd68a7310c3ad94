-- §12 of the requests: the turn record and a turn (Turns), and what holds of turns (Claims).
pub mod Turns
pub mod Claims
