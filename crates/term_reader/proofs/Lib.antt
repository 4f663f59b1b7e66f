mod ArgumentsRead
mod Bindings
mod Ends
mod Numerals
mod PlanLaws
mod ReadingLaws
