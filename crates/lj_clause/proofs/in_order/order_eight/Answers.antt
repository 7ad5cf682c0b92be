use Rattle.std.proofs.lemmas.List.Sorted.{IsPermutation-trans}
use Rattle.lj_clause.proofs.in_order.order_eight.Goals as goal

pub returns : goal.returns
returns c =
    let moved-1 = c.exchange.ensures in
    let moved-2 = IsPermutation-trans _ _ _ moved-1 c.exchange-2.ensures in
    let moved-3 = IsPermutation-trans _ _ _ moved-2 c.exchange-3.ensures in
    let moved-4 = IsPermutation-trans _ _ _ moved-3 c.exchange-4.ensures in
    let moved-5 = IsPermutation-trans _ _ _ moved-4 c.exchange-5.ensures in
    let moved-6 = IsPermutation-trans _ _ _ moved-5 c.exchange-6.ensures in
    let moved-7 = IsPermutation-trans _ _ _ moved-6 c.exchange-7.ensures in
    let moved-8 = IsPermutation-trans _ _ _ moved-7 c.exchange-8.ensures in
    let moved-9 = IsPermutation-trans _ _ _ moved-8 c.exchange-9.ensures in
    let moved-10 = IsPermutation-trans _ _ _ moved-9 c.exchange-10.ensures in
    let moved-11 = IsPermutation-trans _ _ _ moved-10 c.exchange-11.ensures in
    let moved-12 = IsPermutation-trans _ _ _ moved-11 c.exchange-12.ensures in
    let moved-13 = IsPermutation-trans _ _ _ moved-12 c.exchange-13.ensures in
    let moved-14 = IsPermutation-trans _ _ _ moved-13 c.exchange-14.ensures in
    let moved-15 = IsPermutation-trans _ _ _ moved-14 c.exchange-15.ensures in
    let moved-16 = IsPermutation-trans _ _ _ moved-15 c.exchange-16.ensures in
    let moved-17 = IsPermutation-trans _ _ _ moved-16 c.exchange-17.ensures in
    let moved-18 = IsPermutation-trans _ _ _ moved-17 c.exchange-18.ensures in
    let moved-19 = IsPermutation-trans _ _ _ moved-18 c.exchange-19.ensures in
    moved-19
