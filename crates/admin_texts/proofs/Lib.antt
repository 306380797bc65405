mod OneEnd
mod Spread
