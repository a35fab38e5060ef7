mod OneValue
