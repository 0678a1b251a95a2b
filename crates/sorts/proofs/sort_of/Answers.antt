use Rattle.std.proofs.Common.{◌≡◌, arith}
use Rattle.sorts.specs.Sorts.{sort_row}
use Rattle.sorts.proofs.Neighbours.{of-two, of-four, none-past}
use Rattle.sorts.proofs.sort_of.Goals as goal

pub returns-in-2 : goal.returns-in-2
unfolding sort_row
returns-in-2 c =
    let a = c.args in
    of-two (λ k. c.only-in-2.result ≡ sort_row k a.a a.b a.c a.xa a.xb a.xc) 2 a.k (omega arith) (omega arith) (cc) (cc)

pub returns-in-7 : goal.returns-in-7
unfolding sort_row
returns-in-7 c =
    let a = c.args in
    of-two (λ k. c.only-in-7.result ≡ sort_row k a.a a.b a.c a.xa a.xb a.xc) 7 a.k (omega arith) (omega arith) (cc) (cc)

pub returns-in-10 : goal.returns-in-10
unfolding sort_row
returns-in-10 c =
    let a = c.args in
    of-two (λ k. c.only-in-10.result ≡ sort_row k a.a a.b a.c a.xa a.xb a.xc) 10 a.k (omega arith) (omega arith) (cc) (cc)

pub returns-in-16-to-19 : goal.returns-in-16-to-19
unfolding sort_row
returns-in-16-to-19 c =
    let a = c.args in
    of-four (λ k. c.only-in-16-to-19.result ≡ sort_row k a.a a.b a.c a.xa a.xb a.xc) 16 a.k (omega arith) (omega arith) (cc) (cc) (cc) (cc)

pub returns-in-20 : goal.returns-in-20
unfolding sort_row
returns-in-20 c =
    let a = c.args in
    of-two (λ k. c.only-in-20.result ≡ sort_row k a.a a.b a.c a.xa a.xb a.xc) 20 a.k (omega arith) (omega arith) (cc) (cc)

pub returns-in-23 : goal.returns-in-23
unfolding sort_row
returns-in-23 c =
    let a = c.args in
    of-two (λ k. c.only-in-23.result ≡ sort_row k a.a a.b a.c a.xa a.xb a.xc) 23 a.k (omega arith) (omega arith) (cc) (cc)

pub returns-in_default : goal.returns-in_default
unfolding sort_row
returns-in_default c =
    let a = c.args in
    let z : a.k ≡ 0 = omega arith in
    rw z

pub returns-in_default-2 : goal.returns-in_default-2
returns-in_default-2 c = let a = c.args in none-past a.k a.a a.b a.c a.xa a.xb a.xc (omega arith)
